mod Ascii
mod Frames

pub mod Order
pub mod Setting
pub mod Changing
pub mod Looking
pub mod Starting

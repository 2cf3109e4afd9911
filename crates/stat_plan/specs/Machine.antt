-- Words of the overlay's machines: nodes and links, kin, and what a loss does, whatever the nodes work on; what holds of them;
-- journals of any machine. And of the waves: their timers, and what is due. They say nothing of a plan's files; they stand here
-- because the filters, the machines and their nodes all cite them, and this is the lowest crate under all of these.
pub mod Due
pub mod Waves
pub mod Kin
pub mod Overlays
pub mod LossInvariant
pub mod Journals

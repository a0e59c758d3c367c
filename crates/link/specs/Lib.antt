pub mod Sender
pub mod Frames
pub mod Receiver
pub mod Demand

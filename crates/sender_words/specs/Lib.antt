pub mod Sender

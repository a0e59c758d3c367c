pub mod Capturing
pub mod Receiving
pub mod Scheduling
pub mod Sending
pub mod Streaming
pub mod Tracing
pub mod Verifying

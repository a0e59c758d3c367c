pub mod Preemptable

pub mod HoldLines

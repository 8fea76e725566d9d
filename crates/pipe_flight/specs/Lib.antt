pub mod Flights
pub mod Orders
pub mod Schedules
pub mod Traces
pub mod Drains
pub mod States
pub mod Pipes

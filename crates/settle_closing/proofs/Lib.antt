mod ClosedLemmas
mod DueTimes
mod Ends
mod Entries
mod Meant
mod PortLemmas
mod Stepping

pub mod Form
pub mod Laws
pub mod RoundTrip
pub mod Wrote

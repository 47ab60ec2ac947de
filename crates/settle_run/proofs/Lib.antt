mod CourseLemmas
mod GiftLemmas
mod PartLemmas
mod PortLemmas
mod SettledLemmas

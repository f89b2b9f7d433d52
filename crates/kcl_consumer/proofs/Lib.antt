pub mod StandLemmas
mod WaitingLemmas

pub mod CallTurns
pub mod TurnTaken
pub mod RoundTaken
pub mod CallTaken
pub mod InTurn
pub mod OfLines
pub mod Playing

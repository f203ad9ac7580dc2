pub mod BlockEnds
pub mod PushedPieces
pub mod FilledTrees
pub mod FreshTexts

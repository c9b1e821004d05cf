-- Cases of moves, by computation; their laws are in crates/law_moves.
pub mod CasesMoves

-- Cases of the definitions in ../specs, by computation. They can be read beside document 01 with nothing else; the laws
-- of those definitions are in crates/law_file.

pub mod CasesBase  -- what they compute with and look at
pub mod Cases  -- document 01's proved table
pub mod CasesHeader  -- create, the hash, the header
pub mod CasesFile  -- messages, the table, images that no create left
pub mod CasesCalls  -- lists of calls and their answers
pub mod CasesNotes  -- empty notes, and the version bytes
pub mod CasesWide  -- images of version 2.0.0
pub mod CasesInspect  -- walk and check
pub mod CasesStretches  -- two points on one message
pub mod CasesOthers  -- images that no call of ours made

pub mod CasesEpochs

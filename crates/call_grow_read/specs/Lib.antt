pub mod PairReads

-- Laws of compaction, of any image bytes.
pub mod Packing  -- what is packed, and how far it reaches
pub mod Packed  -- what stands in the image that a compaction leaves
pub mod Compacted  -- that image, byte by byte, and compacting twice

pub mod Rooms  -- 12 and 13 with a place that counts both images

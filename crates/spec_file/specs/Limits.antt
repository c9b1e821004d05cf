-- The numbers that documents 01 and 02 fix, each in one place: limits, version, header offsets and defaults.
-- Assumes nothing.
use Rattle.std.specs.Prelude.{ℕ, ◌-◌, ◌^◌, [], ◌∷◌}
use Rattle.spec_file.specs.Bytes.{Bytes}

-- ---- limits of an image, a key and a table (questions 1 to 3 and 6). 02: "Images may be up to 1,073,741,824 bytes and
-- N up to 1,048,576"
abbrev pub page_size : ℕ
page_size = 4096

abbrev pub most_image : ℕ
most_image = 1073741824

abbrev pub most_key : ℕ
most_key = 32

abbrev pub most_slots : ℕ
most_slots = 1048576

-- the last character value that may be scrambled
abbrev pub most_character : ℕ
most_character = 255

-- ---- messages: bytes of a length, the largest length, in version 1
abbrev pub length_width : ℕ
length_width = 3

abbrev pub most_length : ℕ
most_length = 16777215

-- 02, Job 11: "Version 2.0.0 has message headers of a letter and 4 bytes", "question 12's bound is 1,073,741,823"
abbrev pub wide_width : ℕ
wide_width = 4

abbrev pub most_wide : ℕ
most_wide = 1073741823

-- "a" (active) and "d" (inactive)
abbrev pub active : ℕ
active = 97

abbrev pub inactive : ℕ
inactive = 100

-- ---- the header: "BHTF", the letter v, and the version bytes; 02: "Version bytes become 1, 0, 2"
abbrev pub magic : Bytes
magic = 66 ∷ 72 ∷ 84 ∷ 70 ∷ 118 ∷ []

abbrev pub major : ℕ
major = 1

abbrev pub minor : ℕ
minor = 0

abbrev pub patch : ℕ
patch = 2

-- 02: "Question 5 takes 2, 0, 0 too"
abbrev pub wide_major : ℕ
wide_major = 2

abbrev pub wide_minor : ℕ
wide_minor = 0

abbrev pub wide_patch : ℕ
wide_patch = 0

-- where the version bytes and each header number stand
abbrev pub version_field : ℕ
version_field = 5

abbrev pub serial_field : ℕ
serial_field = 8

abbrev pub key_field : ℕ
key_field = 12

abbrev pub slots_field : ℕ
slots_field = 16

abbrev pub points_field : ℕ
points_field = 20

abbrev pub multiplier_field : ℕ
multiplier_field = 24

abbrev pub start_field : ℕ
start_field = 28

abbrev pub first_field : ℕ
first_field = 32

abbrev pub last_field : ℕ
last_field = 36

abbrev pub scramble_field : ℕ
scramble_field = 40

abbrev pub table_field : ℕ
table_field = 44

abbrev pub data_field : ℕ
data_field = 48

abbrev pub free_field : ℕ
free_field = 52

abbrev pub page_field : ℕ
page_field = 56

-- the header's end
abbrev pub header_size : ℕ
header_size = 60

-- "scramble offset, 512", "table offset, 2,048"
abbrev pub scramble_start : ℕ
scramble_start = 512

abbrev pub table_start : ℕ
table_start = 2048

-- ---- what create writes
-- "N (0 means 5,507)"
abbrev pub default_slots : ℕ
default_slots = 5507

abbrev pub default_first : ℕ
default_first = 32

abbrev pub default_last : ℕ
default_last = 126

-- how many numbers create's scramble has: E − F + 1
abbrev pub scramble_count : ℕ
scramble_count = 95

abbrev pub default_multiplier : ℕ
default_multiplier = 0x01000193

abbrev pub default_start : ℕ
default_start = 0x811C9DC5

-- numbers of 32 bits stand below this
abbrev pub word : ℕ
word = 2 ^ 32

-- −1 in two's complement
abbrev pub minus_one : ℕ
minus_one = 2 ^ 32 - 1

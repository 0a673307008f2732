-- Document 01, "Line and consist": the table of ranges, a row to a test. The load class is judged with the brake figures (`brake`).
use Rattle.std.specs.Prelude.{ℕ, Bool, ◌&&◌, leb}

-- from low to high, both included
unfoldable pub between : ℕ → ℕ → ℕ → Bool
between low high n = leb low n && leb n high

-- line end
abbrev pub greatest_line_end : ℕ
greatest_line_end = 2000000000000

abbrev pub line_end_in_range : ℕ → Bool
line_end_in_range = between 1 greatest_line_end

-- safety distance
abbrev pub greatest_safety : ℕ
greatest_safety = 20000000000

abbrev pub safety_in_range : ℕ → Bool
safety_in_range = between 0 greatest_safety

-- speed ceiling V
abbrev pub greatest_ceiling : ℕ
greatest_ceiling = 40000000

abbrev pub ceiling_in_range : ℕ → Bool
ceiling_in_range = between 1 greatest_ceiling

-- greatest traction A
abbrev pub greatest_traction : ℕ
greatest_traction = 100000

abbrev pub traction_in_range : ℕ → Bool
traction_in_range = between 1 greatest_traction

-- train id
abbrev pub greatest_id : ℕ
greatest_id = 65535

abbrev pub id_in_range : ℕ → Bool
id_in_range = between 1 greatest_id

-- length of a train, in feet
abbrev pub greatest_length : ℕ
greatest_length = 10000

abbrev pub length_in_range : ℕ → Bool
length_in_range = between 1 greatest_length

-- request number; the starting number may be 0
abbrev pub greatest_number : ℕ
greatest_number = 4294967295

abbrev pub number_in_range : ℕ → Bool
number_in_range = between 1 greatest_number

abbrev pub start_in_range : ℕ → Bool
start_in_range = between 0 greatest_number

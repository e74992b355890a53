-- A log of three contents in bytes: formatted and appended to, after a first checkpoint, and after a second one.
use Rattle.std.specs.Prelude.{ℕ, List, [], ◌∷◌, ◌++◌}
use Rattle.pv_disk_model.specs.Size.{Contents}
use Rattle.pv_format.specs.Journal.{records_of}
use Rattle.pv_law_checkpoints.specs.Roots.{start}
use Rattle.pv_law_checkpoints.specs.TwoAreas.{block_of}

-- An epoch of 1.
abbrev pub begun : List ℕ
begun = 1 ∷ 0 ∷ 0 ∷ 0 ∷ 1 ∷ []

-- A prepared transaction that writes 101.
abbrev pub prepared : List ℕ
prepared = 2 ∷ 0 ∷ 0 ∷ 0 ∷ 0 ∷ 1 ∷ 0 ∷ 0 ∷ 0 ∷ 0 ∷ 1 ∷ 0 ∷ 0 ∷ 0 ∷ 0 ∷ 0 ∷ 1 ∷ 0 ∷ 0 ∷ 0 ∷ 0 ∷ 0 ∷ 0 ∷ 0 ∷ 0 ∷ 101 ∷ []

-- That it is committed.
abbrev pub committed : List ℕ
committed = 3 ∷ 0 ∷ 0 ∷ 0 ∷ 0 ∷ 1 ∷ 0 ∷ 0 ∷ 0 ∷ 0 ∷ 1 ∷ []

abbrev pub three : Contents
three = begun ∷ prepared ∷ committed ∷ []

-- Root 0 as formatted: open, with the number 1 and an empty block at 58.
abbrev pub first_formatted : List ℕ
first_formatted = 1 ∷ 0 ∷ 0 ∷ 0 ∷ 0 ∷ 0 ∷ 0 ∷ 0 ∷ 1 ∷ 0 ∷ 0 ∷ 0 ∷ 0 ∷ 0 ∷ 0 ∷ 0 ∷ 58 ∷ 0 ∷ 0 ∷ 0 ∷ 0 ∷ 0 ∷ 0 ∷ 0 ∷ 0 ∷ []

-- Root 1 as formatted: closed.
abbrev pub second_formatted : List ℕ
second_formatted = 0 ∷ 0 ∷ 0 ∷ 0 ∷ 0 ∷ 0 ∷ 0 ∷ 0 ∷ 0 ∷ 0 ∷ 0 ∷ 0 ∷ 0 ∷ 0 ∷ 0 ∷ 0 ∷ 0 ∷ 0 ∷ 0 ∷ 0 ∷ 0 ∷ 0 ∷ 0 ∷ 0 ∷ 0 ∷ []

-- Root 1 after the first checkpoint: the number 2, and a block of 54 bytes at 116.
abbrev pub second_with_2 : List ℕ
second_with_2 = 1 ∷ 0 ∷ 0 ∷ 0 ∷ 0 ∷ 0 ∷ 0 ∷ 0 ∷ 2 ∷ 0 ∷ 0 ∷ 0 ∷ 0 ∷ 0 ∷ 0 ∷ 0 ∷ 116 ∷ 0 ∷ 0 ∷ 0 ∷ 0 ∷ 0 ∷ 0 ∷ 0 ∷ 54 ∷ []

-- Root 0 after the second: the number 3, and a block of 54 bytes at 58.
abbrev pub first_with_3 : List ℕ
first_with_3 = 1 ∷ 0 ∷ 0 ∷ 0 ∷ 0 ∷ 0 ∷ 0 ∷ 0 ∷ 3 ∷ 0 ∷ 0 ∷ 0 ∷ 0 ∷ 0 ∷ 0 ∷ 0 ∷ 58 ∷ 0 ∷ 0 ∷ 0 ∷ 0 ∷ 0 ∷ 0 ∷ 0 ∷ 54 ∷ []

-- The three records behind an empty block: 116 bytes.
abbrev pub appended : List ℕ
appended = start ++ (first_formatted ++ (second_formatted ++ (records_of three ++ 0 ∷ [])))

-- After a checkpoint: 171 bytes.
abbrev pub packed_once : List ℕ
packed_once = start ++ (first_formatted ++ (second_with_2 ++ (records_of three ++ 0 ∷ (block_of three ++ 0 ∷ []))))

-- After one more. The new block and its gate leave the last three bytes of the first area.
abbrev pub packed_twice : List ℕ
packed_twice = start ++ (first_with_3 ++ (second_with_2 ++ (block_of three ++ 0 ∷ (0 ∷ 1 ∷ 0 ∷ (block_of three ++ 0 ∷ [])))))

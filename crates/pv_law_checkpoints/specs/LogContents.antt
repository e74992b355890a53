-- The contents of the log in two areas that bytes are.
use Rattle.std.specs.Prelude.{ℕ, zero, suc, ◌+◌, ◌-◌, ◌==◌, nat_lt, Bool, if◌then◌else◌, List, [], ◌∷◌, ◌++◌, Option, Some, None, length, take, drop, option_and_then}
use Rattle.std.specs.Option.{option_map}
use Rattle.std.specs.Str.{bytes_eq}
use Rattle.pv_disk_model.specs.Size.{Contents}
use Rattle.pv_format.specs.Journal.{framed}
use Rattle.pv_format.specs.JournalContents.{content_at, contents_from}
use Rattle.pv_law_checkpoints.specs.Roots.{start, gate_at, number_at, place_at, size_at}
use Rattle.pv_law_checkpoints.specs.TwoAreas.{greatest_place, behind_block}

-- The contents of a block, where so many bytes are passed over first: each stands after its length, and they fill the block. Other bytes have none.
abbrev pub block_contents : ℕ → List ℕ → Option Contents
block_contents zero [] = Some []
block_contents (suc passed) [] = None
block_contents (suc passed) (byte ∷ bytes) = block_contents passed bytes
block_contents zero (byte ∷ bytes) =
    let content = content_at (byte ∷ bytes) in
    let frame = framed content in
    if bytes_eq (take (length frame) (byte ∷ bytes)) frame
    then option_map (λ later. content ∷ later) (block_contents (length frame - 1) bytes)
    else None

-- Where the root in force stands, where these are open.
abbrev pub greater_root : (first second : Bool) → List ℕ → Option ℕ
greater_root first second bytes =
    if first
    then (if second then (if nat_lt (number_at bytes 8) (number_at bytes 33) then Some 33 else Some 8) else Some 8)
    else (if second then Some 33 else None)

-- Where the root in force stands.
abbrev pub root_in_force : List ℕ → Option ℕ
root_in_force bytes = greater_root (gate_at bytes 8 == 1) (gate_at bytes 33 == 1) bytes

-- The contents of a block and those of the records behind it.
abbrev pub joined : Option Contents → Option Contents → Option Contents
joined packed later = option_and_then (λ (first : Contents). option_map (λ (more : Contents). first ++ more) later) packed

-- The contents of the block of the root that stands here and of the records behind it, where the block is in range and has a byte behind it.
abbrev pub contents_at : List ℕ → ℕ → Option Contents
contents_at bytes at =
    if nat_lt (place_at bytes at) 58 then None
    else if nat_lt greatest_place (place_at bytes at) then None
    else if nat_lt (place_at bytes at + size_at bytes at) (length bytes)
    then joined (block_contents 0 (take (size_at bytes at) (drop (place_at bytes at) bytes))) (contents_from 0 (behind_block bytes at))
    else None

-- The contents of a log in two areas: those of the block of the root in force, and then those of the records behind it. Other bytes have none.
unfoldable pub log_contents_of : List ℕ → Option Contents
log_contents_of bytes =
    if bytes_eq (take 8 bytes) start
    then (if nat_lt (length bytes) 59 then None else option_and_then (contents_at bytes) (root_in_force bytes))
    else None

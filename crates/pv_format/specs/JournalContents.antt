-- The contents of the journal that bytes are.
use Rattle.std.specs.Prelude.{ℕ, zero, suc, ◌==◌, if◌then◌else◌, List, [], ◌∷◌, Option, Some, None, length, take, drop}
use Rattle.std.specs.Option.{option_map}
use Rattle.std.specs.Str.{bytes_eq}
use Rattle.pv_base.specs.BigEndian.{number_of}
use Rattle.pv_disk_model.specs.Size.{Contents}
use Rattle.pv_format.specs.Journal.{header, framed}

-- The content that stands after its length.
abbrev pub content_at : List ℕ → List ℕ
content_at bytes = take (number_of (take 4 bytes)) (drop 4 bytes)

-- The contents of the records from a gate on, where so many bytes are passed over first. After a gate of 1 come a content, with its length before it, and the
-- next gate; after any other gate comes nothing that counts. Where the bytes end before such a gate there are none.
abbrev pub contents_from : ℕ → List ℕ → Option Contents
contents_from passed [] = None
contents_from (suc passed) (byte ∷ bytes) = contents_from passed bytes
contents_from zero (gate ∷ bytes) =
    let frame = framed (content_at bytes) in
    if gate == 1
    then (if bytes_eq (take (length frame) bytes) frame then option_map (λ later. content_at bytes ∷ later) (contents_from (length frame) bytes) else None)
    else Some []

-- The contents of a journal: the header, and after it the records. Other bytes have none.
unfoldable pub contents_of : List ℕ → Option Contents
contents_of bytes = if bytes_eq (take 8 bytes) header then contents_from 8 bytes else None

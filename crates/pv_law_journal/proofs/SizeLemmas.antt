-- How long journals are.
use Rattle.std.specs.Prelude.{◌≡◌, ℕ, ◌+◌, List, [], ◌∷◌, Option, Some, None, length, option_and_then}
use Rattle.std.proofs.Common.{refl, arith, length-append}
use Rattle.std.proofs.lemmas.List.Sums.{sum_by-cons}
use Rattle.pv_base.specs.BigEndian.{big_endian}
use Rattle.pv_base.proofs.BigEndianLemmas.{length-big_endian}
use Rattle.pv_disk_model.specs.Size.{Contents, size_of}
use Rattle.pv_format.specs.Journal.{framed, record_of, records_of, end_of}
use Rattle.pv_format.specs.JournalContents.{contents_of}

pub length-framed : (content : List ℕ) → length (framed content) ≡ 4 + length content
length-framed content = omega (arith, length-append (big_endian 4 (length content)) content, length-big_endian 4 (length content))

-- A journal's length is that of its contents.
pub end_of-size : (contents : Contents) → size_of contents ≡ end_of contents + 1
end_of-size [] = refl
end_of-size (content ∷ contents) =
    omega (arith, sum_by-cons (λ c. 5 + length c) content contents, end_of-size contents, length-append (record_of content) (records_of contents), length-framed content)

-- What is known is some bytes, of which the contents are known.
pub known_bytes : (content : Option (List ℕ)) (held : Contents) → option_and_then contents_of content ≡ Some held
    → (bytes : List ℕ) × (content ≡ Some bytes) × (contents_of bytes ≡ Some held)
known_bytes None held is = cc
known_bytes (Some bytes) held is = (bytes, refl, is)

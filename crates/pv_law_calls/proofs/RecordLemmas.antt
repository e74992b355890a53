-- Records, where they stand and how long they are.
use Rattle.std.proofs.Common.{◌≡◌, ℕ, ◌+◌, Bool, true, false, List, [], ◌∷◌, ◌++◌, length, drop, sym, ◌∙◌, ap, arith, length-append}
use Rattle.std.specs.Prelude.{MatchBool}
use Rattle.std.proofs.lemmas.List.{append-nil, drop-drop}
use Rattle.std.proofs.lemmas.List.Concat.{flat_map-append}
use Rattle.pv_base.specs.BigEndian.{big_endian}
use Rattle.pv_base.proofs.BigEndianLemmas.{length-big_endian}
use Rattle.pv_disk_model.specs.Size.{Contents}
use Rattle.pv_format.specs.Journal.{framed, record_of, records_of}
use Rattle.pv_law_journal.proofs.SizeLemmas.{length-framed}

-- What follows the gate, as a drop of the bytes.
pub after_gate : (bytes more : List ℕ) (place gate : ℕ) → drop place bytes ≡ gate ∷ more → drop (place + 1) bytes ≡ more
after_gate bytes more place gate is = sym (drop-drop 1 place bytes) ∙ ap (λ (l : List ℕ). drop 1 l) is

pub records_of-push : (contents : Contents) (content : List ℕ) → records_of (contents ++ content ∷ []) ≡ records_of contents ++ record_of content
records_of-push contents content = flat_map-append record_of contents (content ∷ []) ∙ ap (λ (l : List ℕ). records_of contents ++ l) (append-nil (record_of content))

pub length-record_of : (content : List ℕ) → length (record_of content) ≡ 5 + length content
length-record_of content = omega (arith, length-append (big_endian 4 (length content)) content, length-big_endian 4 (length content))

pub length-frame : (frame content : List ℕ) → frame ≡ framed content ++ 0 ∷ [] → length frame ≡ 5 + length content
length-frame frame content is = omega (arith, ap length is, length-append (framed content) (0 ∷ []), length-framed content)

pub not_down : (b : Bool) (A B : Type 0) → b ≡ false → B → MatchBool b A B
not_down true A B is has = cc
not_down false A B is has = has

-- The bytes of a number as the kit gives them, one by one, and of a transaction.
use Rattle.std.proofs.Common.{◌≡◌, ◌∙◌, ◌∷◌, ◌++◌, [], ℕ, List, ap₂, sym, subst}
use Rattle.std.specs.Prelude.{slice_index_or}
use Rattle.std.specs.Int.{to_be_bytes, w32, w64}
use Rattle.pv_base.specs.BigEndian.{big_endian}
use Rattle.pv_base.specs.declared.txn.TxnId.{TxnId}
use Rattle.pv_base.proofs.BigEndianLemmas.{big_endian-one, bytes_high_first-big_endian}
use Rattle.pv_format.specs.Spelling.{SpellsTxn}

-- Four bytes are the number's.
pub four_bytes : (bytes : List ℕ) (number : ℕ) → bytes ≡ to_be_bytes w32 number
    → slice_index_or bytes 0 0 ∷ slice_index_or bytes 1 0 ∷ slice_index_or bytes 2 0 ∷ slice_index_or bytes 3 0 ∷ [] ≡ big_endian 4 number
four_bytes bytes number is =
    subst (λ (bytes : List ℕ). slice_index_or bytes 0 0 ∷ slice_index_or bytes 1 0 ∷ slice_index_or bytes 2 0 ∷ slice_index_or bytes 3 0 ∷ [] ≡ big_endian 4 number)
    (sym is) (bytes_high_first-big_endian 4 number)

-- Eight bytes are the number's.
pub eight_bytes : (bytes : List ℕ) (number : ℕ) → bytes ≡ to_be_bytes w64 number
    → slice_index_or bytes 0 0 ∷ slice_index_or bytes 1 0 ∷ slice_index_or bytes 2 0 ∷ slice_index_or bytes 3 0
    ∷ slice_index_or bytes 4 0 ∷ slice_index_or bytes 5 0 ∷ slice_index_or bytes 6 0 ∷ slice_index_or bytes 7 0 ∷ [] ≡ big_endian 8 number
eight_bytes bytes number is =
    subst (λ (bytes : List ℕ). slice_index_or bytes 0 0 ∷ slice_index_or bytes 1 0 ∷ slice_index_or bytes 2 0 ∷ slice_index_or bytes 3 0
    ∷ slice_index_or bytes 4 0 ∷ slice_index_or bytes 5 0 ∷ slice_index_or bytes 6 0 ∷ slice_index_or bytes 7 0 ∷ [] ≡ big_endian 8 number)
    (sym is) (bytes_high_first-big_endian 8 number)

-- A transaction is spelled by one list of bytes.
pub txn_spelled : (txn : TxnId) (bytes : List ℕ) → SpellsTxn txn bytes → txn.site.0 ∷ (big_endian 4 txn.epoch ++ big_endian 4 txn.number) ≡ bytes
txn_spelled txn bytes spells =
    let join = λ (front back : List ℕ). front ++ back in
    let numbers = spells.second.whole ∙ ap₂ join spells.second.first.spelled spells.second.second.spelled in
    sym (spells.whole ∙ ap₂ join (spells.first.spelled.spelled ∙ big_endian-one txn.site.0 spells.first.spelled.fits) numbers)

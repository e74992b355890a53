-- What single words spell.
use Rattle.std.specs.Prelude.{ℕ, ◌-◌, ◌^◌, ◌==◌, nat_le, Bool, true, false, ◌&&◌, Option, Some, None, List, [], ◌∷◌, if◌then◌else◌, codes}
use Rattle.std.specs.List.{slice_split}
use Rattle.std.specs.Str.{bytes_eq}
use Rattle.pv_base.specs.declared.limits.TheConstants.{MAX_SITES}
use Rattle.pv_base.specs.declared.mode.Mode.{Mode}
use Rattle.pv_base.specs.declared.mode.Mode.TheVariants.{Lost, Kept, Torn}
use Rattle.pv_base.specs.declared.txn.TxnId.{TxnId}
use Rattle.pv_model.specs.LineForms.{are_digits}
use Rattle.pv_model.specs.Text.{number_of_digits}

-- the number in this range that a word spells: digits alone, of which those at the front may be 0
abbrev pub number_said : (least most : ℕ) → List ℕ → Option ℕ
number_said least most word =
    if are_digits word && (nat_le least (number_of_digits word) && nat_le (number_of_digits word) most) then Some (number_of_digits word) else None

-- the transaction of this site, epoch and number, where there are all three
abbrev pub txn_with : Option ℕ → Option ℕ → Option ℕ → Option TxnId
txn_with (Some site) (Some epoch) (Some number) = Some (record { site = record { 0 = site }; epoch = epoch; number = number })
txn_with _ _ _ = None

-- the transaction whose site, epoch and number these words are
abbrev pub txn_of_parts : List (List ℕ) → Option TxnId
txn_of_parts (site ∷ epoch ∷ number ∷ []) =
    txn_with (number_said 0 (MAX_SITES - 1) site) (number_said 0 (2 ^ 32 - 1) epoch) (number_said 0 (2 ^ 32 - 1) number)
txn_of_parts _ = None

-- The transaction that a word spells: its site, its epoch and its number, with dots between.
unfoldable pub txn_said : List ℕ → Option TxnId
txn_said word = txn_of_parts (slice_split (λ b. b == 46) word)

-- what a stop or a fault leaves, by the word for it
unfoldable pub mode_said : List ℕ → Option Mode
mode_said word =
    if bytes_eq word (codes "lost") then Some Lost
    else (if bytes_eq word (codes "kept") then Some Kept else (if bytes_eq word (codes "torn") then Some Torn else None))

-- a truth, by the word for it
unfoldable pub truth_said : List ℕ → Option Bool
truth_said word = if bytes_eq word (codes "yes") then Some true else (if bytes_eq word (codes "no") then Some false else None)

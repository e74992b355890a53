-- Records that can be read anew: a store takes them.
use Rattle.std.proofs.Common.{◌≡◌, ℕ, ◌≤◌, Bool, true, false, List, [], ◌∷◌, ◌++◌, Option, Some, None, refl, sym, ap, ◌∙◌, arith}
use Rattle.std.specs.Prelude.{IsTrue, if◌then◌else◌, nat_lt}
use Rattle.std.specs.List.{Contains}
use Rattle.std.specs.Option.{option_or}
use Rattle.std.proofs.lemmas.Bool.Decides.{nat_tests}
use Rattle.std.proofs.lemmas.List.{append_assoc}
use Rattle.pv_base.proofs.ContainsLemmas.{Contains-first, Contains-behind}
use Rattle.pv_base.specs.Catalog.{Declared}
use Rattle.pv_base.specs.declared.limits.TheConstants.{HELD_NAMES}
use Rattle.pv_base.specs.declared.txn.TxnId.{TxnId}
use Rattle.pv_format.specs.Record.{Record, epoch_begun, prepared, outcome_known}
use Rattle.pv_law_step.proofs.HomeLemmas.{items-home}
use Rattle.pv_model.specs.Alternatives.{Read}
use Rattle.pv_protocol.specs.Lock.{is_home}
use Rattle.pv_protocol.specs.Start.{just_started}
use Rattle.pv_protocol.specs.Width.{IsNarrow}
use Rattle.pv_site.specs.SiteState.{setup_of}
use Rattle.pv_store.specs.Refusals.{first_too_many, first_too_many_after, if_too_many, site_items, too_many_in, width}

few-enough : (count : ℕ) → count ≤ HELD_NAMES → if_too_many count ≡ None
few-enough count few = by (nat_lt HELD_NAMES count) (grind (arith, nat_tests, few))
  where
    by : (more : Bool) → more ≡ false → (if more then Some count else None) ≡ None
    by false is = refl
    by true is = absurd (let wrong : ⊥ = cc in wrong)

module _ (catalog : Declared) (site : ℕ) (records : List Record) (narrow : IsNarrow HELD_NAMES catalog site records) where
  few-among : (before after : List Record) (txn : TxnId) (writes : List Read) → records ≡ before ++ prepared txn writes ∷ after
      → (items : List ℕ) → ((item : ℕ) → Contains items item → IsTrue (is_home catalog site item))
      → first_too_many catalog records (before ++ prepared txn writes ∷ []) items ≡ None
  few-among before after txn writes split [] homes = refl
  few-among before after txn writes split (item ∷ items) homes =
      ap (λ (one : Option ℕ). option_or one (first_too_many catalog records (before ++ prepared txn writes ∷ []) items))
      (few-enough (width catalog records (before ++ prepared txn writes ∷ []) item)
      (narrow.few before after txn writes item (homes item (Contains-first item items)) split))
      ∙ few-among before after txn writes split items (λ other there. homes other (Contains-behind item items other there))

  few-after : (before rest : List Record) → records ≡ before ++ rest → first_too_many_after catalog records (site_items catalog site) before rest ≡ None
  few-after before [] split = refl
  few-after before (prepared txn writes ∷ rest) split =
      ap (λ (one : Option ℕ). option_or one (first_too_many_after catalog records (site_items catalog site) (before ++ prepared txn writes ∷ []) rest))
      (few-among before rest txn writes split (site_items catalog site)
      (λ item there. items-home (record { me = site; setup = setup_of catalog; records = records; surplus = 0; running = just_started 1 }) item there))
      ∙ few-after (before ++ prepared txn writes ∷ []) rest (split ∙ sym (append_assoc before (prepared txn writes ∷ []) rest))
  few-after before (epoch_begun epoch ∷ rest) split =
      few-after (before ++ epoch_begun epoch ∷ []) rest (split ∙ sym (append_assoc before (epoch_begun epoch ∷ []) rest))
  few-after before (outcome_known txn commits ∷ rest) split =
      few-after (before ++ outcome_known txn commits ∷ []) rest (split ∙ sym (append_assoc before (outcome_known txn commits ∷ []) rest))

  -- A store takes narrow records.
  pub narrow-is-taken : too_many_in catalog site records ≡ None
  unfolding too_many_in
  narrow-is-taken = few-after [] records refl

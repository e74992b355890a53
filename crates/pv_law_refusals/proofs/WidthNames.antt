-- What was taken names the same, in whatever order it stands.
use Rattle.std.proofs.Common.{◌≡◌, ℕ, ℤ, Bool, true, false, ◌||◌, List, [], ◌∷◌, ◌++◌, refl, sym, ap, ◌∙◌}
use Rattle.std.specs.Prelude.{nat_lt, if◌then◌else◌, IsTrue}
use Rattle.std.specs.List.{list_any, flat_map}
use Rattle.std.proofs.lemmas.List.{append-nil, append_assoc}
use Rattle.std.proofs.lemmas.List.Elements.{All-contains}
use Rattle.std.proofs.lemmas.List.Folds.{list_any-append}
use Rattle.pv_base.specs.Assignment.{is_same_txn}
use Rattle.pv_base.specs.Polyvalue.{Case, names, AreNames}
use Rattle.pv_base.specs.declared.grant.GrantId.{GrantId}
use Rattle.pv_base.specs.declared.txn.TxnId.{TxnId}
use Rattle.pv_law_step.proofs.Lists.{all-from}
use Rattle.pv_law_step.proofs.NameLists.{names-are}
use Rattle.pv_model.specs.Alternatives.{Read, all_cases}
use Rattle.pv_protocol.specs.Coordinate.{with_taken, reads_of, names_taken}
use Rattle.pv_protocol.specs.Granted.{taking}
use Rattle.pv_protocol.specs.State.{Taken, Entry}

cases-append : (xs ys : List Read) → all_cases (xs ++ ys) ≡ all_cases xs ++ all_cases ys
cases-append [] ys = refl
cases-append (x ∷ xs) ys = ap (λ rest. x.cases ++ rest) (cases-append xs ys) ∙ sym (append_assoc x.cases (all_cases xs) (all_cases ys))

module _ (t : TxnId) where
  -- some of the values names the transaction
  abbrev named : List Read → Bool
  named reads = names (all_cases reads) t

  named-append : (xs ys : List Read) → named (xs ++ ys) ≡ (named xs || named ys)
  named-append xs ys =
      ap (λ cs. names cs t) (cases-append xs ys)
      ∙ list_any-append (λ (case : Case ℤ). list_any (λ literal. is_same_txn t literal.txn) case.when) (all_cases xs) (all_cases ys)

  or-turned : (b c : Bool) → (b || c) ≡ (c || b)
  or-turned true true = refl
  or-turned true false = refl
  or-turned false true = refl
  or-turned false false = refl

  or-behind : (a b c : Bool) → (a || (b || c)) ≡ ((a || b) || c)
  or-behind true b c = refl
  or-behind false b c = refl

  abbrev values_in : List Taken → List Read
  values_in takens = flat_map (λ (taken : Taken). taken.values) takens

  named-with : (new : Taken) (takens : List Taken) → named (values_in (with_taken new takens)) ≡ named (values_in takens ++ new.values)
  named-with new [] = ap named (append-nil new.values)
  named-with new (first ∷ rest) = by (nat_lt new.site first.site) (named-with new rest)
    where
      by : (b : Bool) → named (values_in (with_taken new rest)) ≡ named (values_in rest ++ new.values)
          → named (values_in (if b then new ∷ (first ∷ rest) else first ∷ with_taken new rest)) ≡ named ((first.values ++ values_in rest) ++ new.values)
      by true later =
          named-append new.values (first.values ++ values_in rest)
          ∙ or-turned (named new.values) (named (first.values ++ values_in rest))
          ∙ sym (named-append (first.values ++ values_in rest) new.values)
      by false later =
          named-append first.values (values_in (with_taken new rest))
          ∙ ap (λ b. named first.values || b) (later ∙ named-append (values_in rest) new.values)
          ∙ or-behind (named first.values) (named (values_in rest)) (named new.values)
          ∙ ap (λ b. b || named new.values) (sym (named-append first.values (values_in rest)))
          ∙ sym (named-append (first.values ++ values_in rest) new.values)

-- The transactions that all taken values name together.
pub names-together : (entry : Entry) (from : ℕ) (grant : GrantId) (values : List Read)
    → AreNames (all_cases (reads_of entry ++ values)) (names_taken (taking entry from grant values))
names-together entry from grant values =
    let all = names-are (all_cases (reads_of (taking entry from grant values))) in
    let same : (t : TxnId) → names (all_cases (reads_of (taking entry from grant values))) t ≡ names (all_cases (reads_of entry ++ values)) t =
    λ t. named-with t (record { site = from; grant = grant; values = values }) entry.taken in
    record {
      ascending = all.ascending;
      each = all-from (λ t. IsTrue (names (all_cases (reads_of entry ++ values)) t)) (names_taken (taking entry from grant values))
          (λ t h. sym (same t) ∙ All-contains (λ u. IsTrue (names (all_cases (reads_of (taking entry from grant values))) u)) (names_taken (taking entry from grant values)) t all.each h);
      whole = λ t named_there. all.whole t (same t ∙ named_there);
    }

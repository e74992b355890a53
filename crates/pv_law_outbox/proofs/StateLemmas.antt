-- What records say, one record after another.
use Rattle.std.proofs.Common.{◌≡◌, ℕ, ℤ, Bool, true, false, cond, Option, Some, None, List, [], ◌∷◌, ◌++◌, refl, sym, ap, ◌∙◌}
use Rattle.std.specs.Prelude.{nat_eq, if◌then◌else◌}
use Rattle.std.specs.Cmp.{nat_eq_equiv}
use Rattle.std.specs.List.{list_any}
use Rattle.std.specs.Map.{lookup}
use Rattle.std.specs.Option.{is_some}
use Rattle.std.proofs.lemmas.Bool.{true≢false, or_left, or_right}
use Rattle.std.proofs.lemmas.List.{append-nil}
use Rattle.std.proofs.lemmas.List.Folds.{list_any-append}
use Rattle.std.proofs.lemmas.Option.{none-some}
use Rattle.pv_base.specs.Assignment.{is_same_txn}
use Rattle.pv_base.proofs.AssignmentLemmas.{same-refl}
use Rattle.pv_base.specs.Polyvalue.{Case}
use Rattle.pv_base.specs.declared.txn.TxnId.{TxnId}
use Rattle.pv_law_outbox.specs.Runs.{IsKept}
use Rattle.pv_law_outbox.specs.State.{Record, held, learnt, taken, Held, State, nothing, condition_of, is_held, outcome_of, is_taken, after, after_all, state_of}

-- One record after others.

after_all-append : (state : State) (entries more : List Record) → after_all state (entries ++ more) ≡ after_all (after_all state entries) more
after_all-append state [] more = refl
after_all-append state (entry ∷ entries) more = after_all-append (after state entry) entries more

pub state_of-last : (entries : List Record) (entry : Record) → state_of (entries ++ entry ∷ []) ≡ after (state_of entries) entry
state_of-last entries entry = after_all-append nothing entries (entry ∷ [])

-- What a longer list of pairs says.

cond-front : {X : Type 0} (b : Bool) (first : X) (rest more : Option X) (x : X) → (rest ≡ Some x → more ≡ Some x) → cond b (Some first) rest ≡ Some x → cond b (Some first) more ≡ Some x
cond-front true first rest more x then_ is = is
cond-front false first rest more x then_ is = then_ is

pub lookup-front : {K X : Type 0} (test : K → Bool) (pairs more : List (K × X)) (x : X) → lookup test pairs ≡ Some x → lookup test (pairs ++ more) ≡ Some x
lookup-front test [] more x is = absurd (none-some x is)
lookup-front test (pair ∷ pairs) more x is =
    cond-front (test pair.0) pair.1 (lookup test pairs) (lookup test (pairs ++ more)) x (lookup-front test pairs more x) is

cond-behind : {X : Type 0} (b : Bool) (first : X) (rest more : Option X) → (rest ≡ None → more ≡ Some first) → cond b (Some first) rest ≡ None → cond b (Some first) more ≡ Some first
cond-behind true first rest more then_ is = refl
cond-behind false first rest more then_ is = then_ is

cond-last : {X : Type 0} (b : Bool) (first x : X) (rest more : Option X) → (rest ≡ None → more ≡ Some x) → cond b (Some first) rest ≡ None → cond b (Some first) more ≡ Some x
cond-last true first x rest more then_ is = absurd (none-some first (sym is))
cond-last false first x rest more then_ is = then_ is

pub lookup-last : {K X : Type 0} (test : K → Bool) (pairs : List (K × X)) (key : K) (x : X) → test key ≡ true → lookup test pairs ≡ None
    → lookup test (pairs ++ (key, x) ∷ []) ≡ Some x
lookup-last test [] key x passes none = ap (λ (b : Bool). cond b (Some x) None) passes
lookup-last test (pair ∷ pairs) key x passes none =
    cond-last (test pair.0) pair.1 x (lookup test pairs) (lookup test (pairs ++ (key, x) ∷ [])) (lookup-last test pairs key x passes) none

pub none-from : {X : Type 0} (found : Option X) → is_some found ≡ false → found ≡ None
none-from None is = refl
none-from (Some x) is = absurd (true≢false is)

-- What is said is said still.

pub kept-refl : (state : State) → IsKept state state
kept-refl state = record {
  held = λ output when is. is;
  order = ([], sym (append-nil state.held));
  outcomes = λ txn outcome is. is;
  taken = λ output is. is;
}

append-assoc : {X : Type 0} (xs ys zs : List X) → (xs ++ ys) ++ zs ≡ xs ++ (ys ++ zs)
append-assoc [] ys zs = refl
append-assoc (x ∷ xs) ys zs = ap (λ rest. x ∷ rest) (append-assoc xs ys zs)

pub kept-trans : (old mid new : State) → IsKept old mid → IsKept mid new → IsKept old new
kept-trans old mid new first second = record {
  held = λ output when is. second.held output when (first.held output when is);
  order = (first.order.0 ++ second.order.0, second.order.1 ∙ ap (λ front. front ++ second.order.0) first.order.1 ∙ append-assoc old.held first.order.0 second.order.0);
  outcomes = λ txn outcome is. second.outcomes txn outcome (first.outcomes txn outcome is);
  taken = λ output is. second.taken output (first.taken output is);
}

more-held : (state : State) (more : List Held) → IsKept state (record state { held = state.held ++ more })
more-held state more = record {
  held = λ output when is. lookup-front (nat_eq output) state.held more when is;
  order = (more, refl);
  outcomes = λ txn outcome is. is;
  taken = λ output is. is;
}

more-outcomes : (state : State) (more : List (TxnId × Bool)) → IsKept state (record state { outcomes = state.outcomes ++ more })
more-outcomes state more = record {
  held = λ output when is. is;
  order = ([], sym (append-nil state.held));
  outcomes = λ txn outcome is. lookup-front (is_same_txn txn) state.outcomes more outcome is;
  taken = λ output is. is;
}

more-taken : (state : State) (more : List ℕ) → IsKept state (record state { taken = state.taken ++ more })
more-taken state more = record {
  held = λ output when is. is;
  order = ([], sym (append-nil state.held));
  outcomes = λ txn outcome is. is;
  taken = λ output is. list_any-append (nat_eq output) state.taken more ∙ or_left (list_any (nat_eq output) state.taken) _ is;
}

kept-either : (b : Bool) (state other : State) → IsKept state other → IsKept state (if b then state else other)
kept-either true state other kept = kept-refl state
kept-either false state other kept = kept

pub kept-after : (state : State) (entry : Record) → IsKept state (after state entry)
kept-after state (held output when) = kept-either (is_held state output) state (record state { held = state.held ++ (output, when) ∷ [] }) (more-held state ((output, when) ∷ []))
kept-after state (learnt txn commits) =
    kept-either (is_some (outcome_of state txn)) state (record state { outcomes = state.outcomes ++ (txn, commits) ∷ [] }) (more-outcomes state ((txn, commits) ∷ []))
kept-after state (taken output) = kept-either (is_taken state output) state (record state { taken = state.taken ++ output ∷ [] }) (more-taken state (output ∷ []))

-- What a record says that is the first of its kind.

pub after-held : (state : State) (output : ℕ) (when : List (Case ℤ)) → is_held state output ≡ false → condition_of (after state (held output when)) output ≡ Some when
after-held state output when none =
    ap (λ (b : Bool). condition_of (if b then state else record state { held = state.held ++ (output, when) ∷ [] }) output) none
    ∙ lookup-last (nat_eq output) state.held output when (nat_eq_equiv.refl output) (none-from (condition_of state output) none)

pub after-learnt : (state : State) (txn : TxnId) (commits : Bool) → outcome_of state txn ≡ None → outcome_of (after state (learnt txn commits)) txn ≡ Some commits
after-learnt state txn commits none =
    ap (λ (found : Option Bool). outcome_of (if is_some found then state else record state { outcomes = state.outcomes ++ (txn, commits) ∷ [] }) txn) none
    ∙ lookup-last (is_same_txn txn) state.outcomes txn commits (same-refl txn) none

taken-either : (b : Bool) (state : State) (output : ℕ) → is_taken state output ≡ b → is_taken (if b then state else record state { taken = state.taken ++ output ∷ [] }) output ≡ true
taken-either true state output is = is
taken-either false state output is =
    list_any-append (nat_eq output) state.taken (output ∷ [])
    ∙ or_right (list_any (nat_eq output) state.taken) _ (or_left (nat_eq output output) false (nat_eq_equiv.refl output))

pub after-taken : (state : State) (output : ℕ) → is_taken (after state (taken output)) output ≡ true
after-taken state output = taken-either (is_taken state output) state output refl

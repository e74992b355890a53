-- The examples, event by event.
use Rattle.std.proofs.Common.{◌≡◌, ℤ, pos, true, false, List, [], ◌∷◌, refl, sym, ap, ◌∙◌}
use Rattle.std.proofs.lemmas.Bool.{true≢false, false≢true}
use Rattle.std.proofs.lemmas.Bool.Decides.{Decides-int_eq}
use Rattle.std.proofs.lemmas.List.Elements.{All-cons, All-nil}
use Rattle.std.proofs.lemmas.Option.{none-some}
use Rattle.pv_base.specs.Polyvalue.{Case, IsCanonical, NamesOnlyAfter}
use Rattle.pv_base.specs.Polyvalue.IsCanonical.{sure, tested}
use Rattle.pv_base.proofs.Basics.{Some_inj, heads}
use Rattle.pv_law_outbox.specs.Certain.{known}
use Rattle.pv_law_outbox.specs.Examples.{some_txn, if_it_commits, always}
use Rattle.pv_law_outbox.specs.Ready.{IsReady, NoneReady, IsNext}
use Rattle.pv_law_outbox.specs.Runs.{holds, learns, releases, has_none, breaks, passes, Run}
use Rattle.pv_law_outbox.specs.State.{Record, held, learnt, taken, Held, State, state_of, is_taken}
use Rattle.pv_law_outbox.proofs.CertainLemmas.{certain-from}

zero-one : pos 0 ≡ pos 1 → ⊥
zero-one is = false≢true ((Decides-int_eq (pos 0) (pos 1)).1 is)

-- Where the transaction isn't known yet, an output that waits for it isn't ready.
waits : (state : State) → state.outcomes ≡ [] → IsReady state (1, if_it_commits) → ⊥
waits state none ready =
    zero-one (Some_inj (ready.certain [] (λ txn outcome is. absurd (none-some outcome (sym (ap (λ outcomes. known outcomes txn) none) ∙ is)))))

not-ready : (state : State) (entry : Held) → is_taken state entry.0 ≡ true → IsReady state entry → ⊥
not-ready state entry is ready = true≢false (sym is ∙ ready.untaken)

abbrev first_three : List Record
first_three = held 1 if_it_commits ∷ held 2 always ∷ []

-- The second of two outputs is released first.
second-first : IsNext (state_of first_three) 2
second-first = record {
  entry = (2, always);
  output_is = refl;
  earlier = (1, if_it_commits) ∷ [];
  later = [];
  held = refl;
  ready = record { untaken = refl; certain = certain-from [] always (sure (pos 1)) refl };
  first = All-cons (λ (entry : Held). IsReady (state_of first_three) entry → ⊥) (1, if_it_commits) [] (waits (state_of first_three) refl) (All-nil _);
}

no-names : (v : ℤ) → NamesOnlyAfter some_txn (record { when = []; value = v } ∷ [])
no-names v named is = absurd (false≢true is)

canonical-choice : IsCanonical if_it_commits
canonical-choice =
    tested some_txn (record { when = []; value = pos 0 } ∷ []) (record { when = []; value = pos 1 } ∷ []) (sure (pos 0)) (sure (pos 1)) (no-names (pos 0)) (no-names (pos 1))
    (λ same. zero-one (ap (λ (case : Case ℤ). case.value) (heads same)))

-- When the transaction is learnt to commit, the first is next.
abbrev learnt_then : List Record
learnt_then = held 1 if_it_commits ∷ held 2 always ∷ taken 2 ∷ learnt some_txn true ∷ []

first-then : IsNext (state_of learnt_then) 1
first-then = record {
  entry = (1, if_it_commits);
  output_is = refl;
  earlier = [];
  later = (2, always) ∷ [];
  held = refl;
  ready = record { untaken = refl; certain = certain-from ((some_txn, true) ∷ []) if_it_commits canonical-choice refl };
  first = All-nil _;
}

abbrev both_taken : List Record
both_taken = held 1 if_it_commits ∷ held 2 always ∷ taken 2 ∷ learnt some_txn true ∷ taken 1 ∷ []

none-then : NoneReady (state_of both_taken) (state_of both_taken).held
none-then =
    All-cons (λ (entry : Held). IsReady (state_of both_taken) entry → ⊥) (1, if_it_commits) ((2, always) ∷ []) (not-ready (state_of both_taken) (1, if_it_commits) refl)
    (All-cons (λ (entry : Held). IsReady (state_of both_taken) entry → ⊥) (2, always) [] (not-ready (state_of both_taken) (2, always) refl) (All-nil _))

pub waiting-run : Run [] (holds 1 if_it_commits ∷ holds 2 always ∷ releases 2 ∷ learns some_txn true ∷ releases 1 ∷ has_none ∷ []) both_taken
waiting-run = (
  held 1 if_it_commits ∷ [],
  record { may = refl; written = refl },
  (
    held 1 if_it_commits ∷ held 2 always ∷ [],
    record { may = refl; written = refl },
    (
      held 1 if_it_commits ∷ held 2 always ∷ taken 2 ∷ [],
      record { may = second-first; written = refl },
      (
        learnt_then,
        record { may = refl; written = refl },
        (both_taken, record { may = first-then; written = refl }, (both_taken, (none-then, refl), refl)),
      ),
    ),
  ),
)

-- One output that is ready.

abbrev only_held : List Record
only_held = held 1 always ∷ []

only-next : IsNext (state_of only_held) 1
only-next = record {
  entry = (1, always);
  output_is = refl;
  earlier = [];
  later = [];
  held = refl;
  ready = record { untaken = refl; certain = certain-from [] always (sure (pos 1)) refl };
  first = All-nil _;
}

abbrev then_taken : List Record
then_taken = held 1 always ∷ taken 1 ∷ []

none-left : NoneReady (state_of then_taken) (state_of then_taken).held
none-left = All-cons (λ (entry : Held). IsReady (state_of then_taken) entry → ⊥) (1, always) [] (not-ready (state_of then_taken) (1, always) refl) (All-nil _)

pub written-run : Run [] (holds 1 always ∷ breaks (taken 1) true ∷ passes ∷ has_none ∷ []) then_taken
written-run = (
  only_held,
  record { may = refl; written = refl },
  (then_taken, record { may = only-next; written = refl }, (then_taken, refl, (then_taken, (none-left, refl), refl))),
)

pub unwritten-run : Run [] (holds 1 always ∷ breaks (taken 1) false ∷ passes ∷ releases 1 ∷ []) then_taken
unwritten-run = (
  only_held,
  record { may = refl; written = refl },
  (only_held, (only-next, refl), (only_held, refl, (then_taken, record { may = only-next; written = refl }, refl))),
)

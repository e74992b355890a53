-- The last vote stays, or the new one is above it.
use Rattle.std.proofs.Common.{◌≡◌, Bool, true, false, Option, [], ◌∷◌, ◌++◌, refl, sym, ap, subst, ◌∙◌}
use Rattle.std.specs.Prelude.{◌&&◌, ◌||◌, not}
use Rattle.std.specs.Bool.{beq}
use Rattle.std.specs.Option.{option_map}
use Rattle.std.proofs.lemmas.Bool.{false≢true, true≢false}
use Rattle.pv_law_quorum.specs.Record.{Vote, value_accepted}
use Rattle.pv_quorum.specs.Knows.{AreValues}
use Rattle.pv_quorum.specs.Values.{ballot_of, vote_of}
use Rattle.pv_quorum.specs.declared.ballot.Ballot.{Ballot}
use Rattle.pv_quorum.proofs.KnownLemmas.{AreBelow, values-stay, values-new}
use Rattle.pv_quorum.proofs.known.Known.accepted.Goals as goal

or-on : (both same : Bool) → both ≡ true → both ≡ (both || same)
or-on true same h = refl
or-on false same h = absurd (false≢true h)

or-same : (both same : Bool) → both ≡ false → same ≡ (both || same)
or-same false same h = refl
or-same true same h = absurd (true≢false h)

pub returns-then-self-clause-values : goal.returns-then-self-clause-values
returns-then-self-clause-values c = λ txn entries range old.
    subst (λ (last : Option (Ballot × Bool)). AreValues txn (entries ++ value_accepted txn (ballot_of c.args.ballot) c.args.commits ∷ []) last c.args.self.both) (sym c.in-Some.is)
    (values-stay txn entries c.in-Some.top c.args.ballot c.in-Some.value c.args.commits c.args.self.both
    (sym c.is_below.ensures ∙ c.if-not-is_below.true)
    (subst (λ (last : Option (Ballot × Bool)). AreValues txn entries last c.args.self.both) c.in-Some.is old)
    c.args.self.both (or-on _ _ c.if-self.true))

pub returns-then-is_same-clause-values : goal.returns-then-is_same-clause-values
returns-then-is_same-clause-values c = λ txn entries range old.
    subst (λ (last : Option (Ballot × Bool)). AreValues txn (entries ++ value_accepted txn (ballot_of c.args.ballot) c.args.commits ∷ []) last (not (beq c.args.commits c.in-Some.value))) (sym c.in-Some.is)
    (values-stay txn entries c.in-Some.top c.args.ballot c.in-Some.value c.args.commits c.args.self.both
    (sym c.is_below.ensures ∙ c.if-not-is_below.true)
    (subst (λ (last : Option (Ballot × Bool)). AreValues txn entries last c.args.self.both) c.in-Some.is old)
    (not (beq c.args.commits c.in-Some.value))
    (ap (λ (same : Bool). same && not (beq c.args.commits c.in-Some.value)) (sym (sym c.is_same.ensures ∙ c.if-is_same.true)) ∙ or-same _ _ c.if-self.false))

pub returns-else-is_same-clause-values : goal.returns-else-is_same-clause-values
returns-else-is_same-clause-values c = λ txn entries range old.
    subst (λ (last : Option (Ballot × Bool)). AreValues txn (entries ++ value_accepted txn (ballot_of c.args.ballot) c.args.commits ∷ []) last c.is_same.result) (sym c.in-Some.is)
    (values-stay txn entries c.in-Some.top c.args.ballot c.in-Some.value c.args.commits c.args.self.both
    (sym c.is_below.ensures ∙ c.if-not-is_below.true)
    (subst (λ (last : Option (Ballot × Bool)). AreValues txn entries last c.args.self.both) c.in-Some.is old)
    c.is_same.result
    (c.if-is_same.false ∙ ap (λ (same : Bool). same && not (beq c.args.commits c.in-Some.value)) (sym (sym c.is_same.ensures ∙ c.if-is_same.false)) ∙ or-same _ _ c.if-self.false))

pub returns-in_default-clause-values : goal.returns-in_default-clause-values
returns-in_default-clause-values c = λ txn entries range old.
    values-new txn entries c.args.ballot c.args.commits
    (subst (λ (last : Option Vote). AreBelow txn entries last (ballot_of c.args.ballot)) (sym (old.last_is ∙ ap (option_map vote_of) c.in-Some.is))
    (sym c.is_below.ensures ∙ c.if-not-is_below.false))

pub returns-in_default-2-clause-values : goal.returns-in_default-2-clause-values
returns-in_default-2-clause-values c = λ txn entries range old.
    values-new txn entries c.args.ballot c.args.commits
    (subst (λ (last : Option Vote). AreBelow txn entries last (ballot_of c.args.ballot)) (sym (old.last_is ∙ ap (option_map vote_of) c.in_default.is)) tt)

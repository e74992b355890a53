-- The last vote has this ballot, or nothing is accepted in it.
use Rattle.std.proofs.Common.{◌≡◌, Bool, true, false, refl, sym, ap, ◌∙◌, arith}
use Rattle.std.specs.Prelude.{◌||◌}
use Rattle.std.specs.Option.{option_map}
use Rattle.std.proofs.lemmas.Bool.{false≢true}
use Rattle.pv_quorum.specs.Values.{ballot_of, vote_of}
use Rattle.pv_quorum.proofs.KnownLemmas.{unvoted, apart-accepted, same-accepted}
use Rattle.pv_quorum.proofs.known.Known.has_accepted.Goals as goal

or-on : (test both : Bool) → test ≡ true → test ≡ (test || both)
or-on true both h = refl
or-on false both h = absurd (false≢true h)

pub returns-then-commits-value : goal.returns-then-commits-value
returns-then-commits-value c = λ txn entries range old unpassed.
    or-on _ _ c.if-commits-value.true
    ∙ sym (same-accepted txn entries range (ballot_of c.args.ballot) (omega arith) unpassed (vote_of (c.in-Some.top, c.in-Some.value))
    (old.values.last_is ∙ ap (option_map vote_of) c.in-Some.is) (sym c.is_same.ensures ∙ c.if-is_same.true) c.args.commits)

pub returns-else-is_same : goal.returns-else-is_same
returns-else-is_same c = λ txn entries range old unpassed.
    c.if-is_same.false
    ∙ sym (apart-accepted txn entries range (ballot_of c.args.ballot) (omega arith) unpassed (vote_of (c.in-Some.top, c.in-Some.value))
    (old.values.last_is ∙ ap (option_map vote_of) c.in-Some.is) (sym c.is_same.ensures ∙ c.if-is_same.false) c.args.commits)

pub returns-in-None : goal.returns-in-None
returns-in-None c = λ txn entries range old unpassed.
    sym (unvoted txn entries range (ballot_of c.args.ballot) (omega arith) unpassed (old.values.last_is ∙ ap (option_map vote_of) c.in-None.is) c.args.commits)

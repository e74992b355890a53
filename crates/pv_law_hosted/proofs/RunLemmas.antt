-- What a run makes that goes on, and that what it has sent is there.
use Rattle.std.proofs.Common.{◌≡◌, ◌≢◌, ℕ, Bool, true, false, if◌then◌else◌, Option, Some, List, [], ◌∷◌, ◌++◌, length, map, drop, All, append_assoc, eq-eqb, ne_eqb, refl, sym, ap, ◌∙◌, subst}
use Rattle.std.specs.List.{Contains}
use Rattle.std.specs.Prelude.{⊤}
use Rattle.std.proofs.Math.Seq.{drop-append_seam}
use Rattle.std.proofs.lemmas.List.Elements.{All-nil, All-cons, All-head, All-tail, All-append, All-weaker, All-contains_itself, Contains-append_left, Contains-append_right}
use Rattle.pv_format.specs.Message.{Envelope}
use Rattle.pv_law_world.proofs.AppendLemmas.{run-append, world_after-append}
use Rattle.pv_law_world.proofs.GrowthLemmas.{Extends, Grown, same, transition-grown}
use Rattle.pv_law_world.proofs.TransitionLemmas.{run-transitions}
use Rattle.pv_law_world.specs.Transitions.{AreTransitions, one_more, site_of}
use Rattle.pv_model.specs.Events.{Event}
use Rattle.pv_protocol.specs.Lines.{Line}
use Rattle.pv_protocol.specs.Run.{run, world_after}
use Rattle.pv_protocol.specs.State.{Setup}
use Rattle.pv_protocol.specs.World.{World, opening}
use Rattle.pv_protocol.specs.WorldStep.{Transition, transition_of}
use Rattle.pv_law_hosted.specs.Made.{Made, sends, prints, is_of, made_in, made_from, made_by}
use Rattle.pv_law_hosted.specs.Mirrored.{world_of}

-- ## A run that goes on
pub made_from-append : (n : ℕ) (world : World) (front back : List Transition)
    → made_from n world (front ++ back) ≡ made_from n world front ++ made_from n (world_after world front) back
made_from-append n world [] back = refl
made_from-append n world (transition ∷ front) back =
    ap (λ (rest : List Made). made_in n world transition ++ rest) (made_from-append n transition.world front back)
    ∙ sym (append_assoc (made_in n world transition) (made_from n transition.world front) (made_from n (world_after transition.world front) back))

pub after-append : (setup : Setup) (world : World) (events more : List Event)
    → world_after world (run setup world (events ++ more)) ≡ world_after (world_after world (run setup world events)) (run setup (world_after world (run setup world events)) more)
after-append setup world events more =
    ap (world_after world) (run-append setup world events more)
    ∙ world_after-append world (run setup world events) (run setup (world_after world (run setup world events)) more)

pub made-append : (setup : Setup) (n : ℕ) (world : World) (events more : List Event)
    → made_from n world (run setup world (events ++ more))
    ≡ made_from n world (run setup world events) ++ made_from n (world_after world (run setup world events)) (run setup (world_after world (run setup world events)) more)
made-append setup n world events more =
    ap (made_from n world) (run-append setup world events more)
    ∙ made_from-append n world (run setup world events) (run setup (world_after world (run setup world events)) more)

-- ## What a transition makes
is_of-same : (n : ℕ) → is_of n (Some n) ≡ true
is_of-same n = eq-eqb n n refl

is_of-other : (n m : ℕ) → n ≢ m → is_of m (Some n) ≡ false
is_of-other n m apart = ne_eqb n m apart

abbrev made_if : World → Transition → Bool → List Made
made_if world transition test =
    if test then map sends (drop (length world.sent) transition.world.sent) ++ map prints transition.lines else []

-- a transition of the site, in which these messages were sent
pub made-own : (n : ℕ) (world : World) (transition : Transition) (more : List Envelope) → site_of world transition.event ≡ Some n
    → transition.world.sent ≡ world.sent ++ more → made_in n world transition ≡ map sends more ++ map prints transition.lines
made-own n world transition more of sent =
    ap (λ (source : Option ℕ). made_if world transition (is_of n source)) of
    ∙ ap (made_if world transition) (is_of-same n)
    ∙ ap (λ (all : List Envelope). map sends (drop (length world.sent) all) ++ map prints transition.lines) sent
    ∙ ap (λ (all : List Envelope). map sends all ++ map prints transition.lines) (drop-append_seam world.sent more)

-- a transition of another one
pub made-other : (n m : ℕ) (world : World) (transition : Transition) → site_of world transition.event ≡ Some n → n ≢ m → made_in m world transition ≡ []
made-other n m world transition of apart =
    ap (λ (source : Option ℕ). made_if world transition (is_of m source)) of ∙ ap (made_if world transition) (is_of-other n m apart)

-- ## What was sent is there
-- The message was sent, where it is one.
abbrev pub IsThere : List Envelope → Made → Type 0
IsThere sent (sends envelope) = Contains sent envelope
IsThere sent (prints line) = ⊤

there-later : (sent more : List Envelope) (made : Made) → IsThere sent made → IsThere (sent ++ more) made
there-later sent more (sends envelope) there = Contains-append_left sent more envelope there
there-later sent more (prints line) there = tt

all-later : (sent after : List Envelope) (made : List Made) → Extends sent after → All (IsThere sent) made → All (IsThere after) made
all-later sent after made extends all =
    subst (λ (l : List Envelope). All (IsThere l) made) (sym extends.1)
    (All-weaker (IsThere sent) (IsThere (sent ++ extends.0)) (λ one there. there-later sent extends.0 one there) made all)

sends-there : (sent more : List Envelope) → All (Contains sent) more → All (IsThere sent) (map sends more)
sends-there sent [] all = All-nil (IsThere sent)
sends-there sent (envelope ∷ more) all = All-cons (IsThere sent) (sends envelope) (map sends more) (All-head (Contains sent) envelope more all) (sends-there sent more (All-tail (Contains sent) envelope more all))

prints-there : (sent : List Envelope) (lines : List Line) → All (IsThere sent) (map prints lines)
prints-there sent [] = All-nil (IsThere sent)
prints-there sent (line ∷ lines) = All-cons (IsThere sent) (prints line) (map prints lines) tt (prints-there sent lines)

module _ (n : ℕ) where
  if-there : (sent : List Envelope) (test : Bool) (made : List Made) → All (IsThere sent) made → All (IsThere sent) (if test then made else [])
  if-there sent true made all = all
  if-there sent false made all = All-nil (IsThere sent)

  made-there : (world : World) (transition : Transition) → Extends world.sent transition.world.sent → All (IsThere transition.world.sent) (made_in n world transition)
  made-there world transition (more, is) =
      if-there transition.world.sent (is_of n (site_of world transition.event)) (map sends (drop (length world.sent) transition.world.sent) ++ map prints transition.lines)
      (All-append (IsThere transition.world.sent) (map sends (drop (length world.sent) transition.world.sent)) (map prints transition.lines)
      (subst (λ (l : List Envelope). All (IsThere transition.world.sent) (map sends l))
      (sym (ap (drop (length world.sent)) is ∙ drop-append_seam world.sent more))
      (sends-there transition.world.sent more
      (subst (λ (l : List Envelope). All (Contains l) more) (sym is)
      (All-weaker (Contains more) (Contains (world.sent ++ more)) (λ envelope there. Contains-append_right world.sent more envelope there) more (All-contains_itself more)))))
      (prints-there transition.world.sent transition.lines))

  module _ (setup : Setup) where
    step-sent : (world : World) (transition : Transition) → transition ≡ transition_of setup world transition.event → Extends world.sent transition.world.sent
    step-sent world transition is =
        let grown : Grown world (site_of world transition.event) transition.world =
        subst (λ (t : Transition). Grown world (site_of world transition.event) t.world) (sym is) (transition-grown setup world transition.event) in
        (grown.sent.0, grown.sent.1)

    pub sent-grows : (world : World) (all : List Transition) → AreTransitions setup world all → Extends world.sent (world_after world all).sent
    sent-grows world [] are = same world.sent
    sent-grows world (transition ∷ all) (one_more world' transition' all' is rest) =
        let first = step-sent world transition is in
        let more = sent-grows transition.world all rest in
        (first.0 ++ more.0, more.1 ∙ ap (λ (l : List Envelope). l ++ more.0) first.1 ∙ append_assoc world.sent first.0 more.0)

    from-there : (world : World) (all : List Transition) → AreTransitions setup world all → All (IsThere (world_after world all).sent) (made_from n world all)
    from-there world [] are = All-nil (IsThere world.sent)
    from-there world (transition ∷ all) (one_more world' transition' all' is rest) =
        let after = world_after transition.world all in
        All-append (IsThere after.sent) (made_in n world transition) (made_from n transition.world all)
        (all-later transition.world.sent after.sent (made_in n world transition) (sent-grows transition.world all rest)
        (made-there world transition (step-sent world transition is)))
        (from-there transition.world all rest)

    pub by-there : (events : List Event) → All (IsThere (world_of setup events).sent) (made_by setup n events)
    by-there events = from-there (opening setup) (run setup (opening setup) events) (run-transitions setup (opening setup) events)

-- That an event has happened.
use Rattle.std.proofs.Common.{◌≡◌, ℕ, ◌≤◌, Bool, true, false, Option, Some, None, List, [], ◌++◌, Result, Ok, Err, inl, inr, refl, sym, ap, ap₂, subst, map, ◌∙◌, arith, suc}
use Rattle.std.specs.Prelude.{MatchBool, OnOk}
use Rattle.std.proofs.lemmas.List.{append-nil, append_assoc}
use Rattle.std.proofs.lemmas.List.Concat.{flat_map-append}
use Rattle.pv_law_decisions.specs.Lines.{Line, line_text, lines_text}
use Rattle.pv_law_decisions.specs.Runs.{Delivers, Happens, IsOver}
use Rattle.pv_law_decisions.specs.Scene.{Scene, delivered, next_fresh, without}
use Rattle.pv_quorum_run.specs.Happening.{HasHappened, HasPumped}
use Rattle.pv_quorum_run.specs.Stands.{Becomes, StandsFor, setup_for}
use Rattle.pv_quorum_run.specs.declared.table.Table.{Table}
use Rattle.pv_law_quorum.specs.Decider.{Setup}
use Rattle.pv_law_quorum.specs.World.{Envelope}
use Rattle.pv_quorum_run.specs.Mail.{envelope_of}
use Rattle.pv_quorum_script.specs.declared.event.QuorumEvent.{QuorumEvent}
use Rattle.pv_quorum_script.specs.declared.event.QuorumEvent.TheVariants.{Pump}

-- An event that comes to one scene.
pub happened : {X E : Type 0} (old new : Table) (before after : List ℕ) (scene : Scene) (event : QuorumEvent) (now : List Line × Scene) (result : Result X E)
    → Happens (setup_for old) scene event now.0 now.1 → Becomes old new before after now result → OnOk result (HasHappened old new before after scene event)
happened old new before after scene event now (Ok x) happens becomes = record { lines = now.0; last = now.1; happens = happens; stands = becomes.0; count = becomes.1; text = becomes.2 }
happened old new before after scene event now (Err e) happens becomes = tt

-- An event that prints nothing.
pub silent-happened : (old new : Table) (text : List ℕ) (scene next : Scene) (event : QuorumEvent) → Happens (setup_for old) scene event [] next → StandsFor new next → new.count ≡ old.count
    → HasHappened old new text text scene event
silent-happened old new text scene next event happens stands same =
    record { lines = []; last = next; happens = happens; stands = stands; count = same; text = sym (append-nil text) }

-- The messages to a decider are done.
pub dropped-stands : (old : Table) (scene : Scene) → StandsFor old scene → (n : ℕ)
    → StandsFor (record old { mail = record old.mail { fresh = without n (map envelope_of old.mail.sent) old.mail.fresh } }) (record scene { fresh = without n scene.world.sent scene.fresh })
dropped-stands old scene stands n = record {
  fewest = stands.fewest;
  most = stands.most;
  cells = stands.cells;
  deciders = stands.deciders;
  arms = stands.arms;
  seats = stands.seats;
  sent = stands.sent;
  fresh = ap₂ (λ (sent : List Envelope) (marks : List Bool). without n sent marks) stands.sent stands.fresh;
  posted = stands.posted;
}

-- A pump.

pumped-over : (most : Option ℕ) (bound : ℕ) (k : ℕ) (last : Scene) (over : Bool) → k ≤ bound → MatchBool over (next_fresh last ≡ None) (k ≡ bound) → (most ≡ Some bound) → IsOver most k last
pumped-over None bound k last over within is same = absurd (cc)
pumped-over (Some most) bound k last true within is same = let told : Some most ≡ Some bound = same in let e : most ≡ bound = cc in inr (omega (arith, within, e), is)
pumped-over (Some most) bound k last false within is same = let told : Some most ≡ Some bound = same in let e : most ≡ bound = cc in inl (is ∙ sym e)

pub some-pumped : (old new : Table) (before after : List ℕ) (scene : Scene) (most : ℕ) (over : Bool) → HasPumped old new before after scene most over
    → HasHappened old new before after scene (Pump (Some most))
some-pumped old new before after scene most over has = record {
  lines = has.lines;
  last = has.last;
  happens = (has.k, has.delivers, pumped-over (Some most) most has.k has.last over has.within has.over_is refl);
  stands = has.stands;
  count = has.count;
  text = has.text;
}

pub all-pumped : (old new : Table) (before after : List ℕ) (scene : Scene) (most : ℕ) (over : Bool) → over ≡ true → HasPumped old new before after scene most over
    → HasHappened old new before after scene (Pump None)
all-pumped old new before after scene most true is has = record {
  lines = has.lines;
  last = has.last;
  happens = (has.k, has.delivers, has.over_is);
  stands = has.stands;
  count = has.count;
  text = has.text;
}
all-pumped old new before after scene most false is has = absurd (cc)

-- So many messages were delivered so far.
pub record Pumping (old new : Table) (before after : List ℕ) (scene : Scene) (k : ℕ) : Type 0 where
  pub lines : List Line
  pub last : Scene
  pub delivers : Delivers (setup_for old) scene k lines last
  pub stands : StandsFor new last
  pub count : new.count ≡ old.count
  pub text : after ≡ before ++ lines_text lines

pub pumping-none : (old : Table) (text : List ℕ) (scene : Scene) → StandsFor old scene → Pumping old old text text scene 0
pumping-none old text scene stands =
    record { lines = []; last = scene; delivers = Delivers.none; stands = stands; count = refl; text = sym (append-nil text) }

-- One message more.
pub pumping-more : (old mid new : Table) (before between after : List ℕ) (scene : Scene) (k number : ℕ) (pumping : Pumping old mid before between scene k)
    → next_fresh pumping.last ≡ Some number
    → Becomes {X = Unit {0}} {E = Unit {0}} mid new between after (delivered (setup_for mid) pumping.last number) (Ok tt) → Pumping old new before after scene (suc k)
pumping-more old mid new before between after scene k number pumping next becomes =
    let setup_same : setup_for mid ≡ setup_for old = ap (λ (count : ℕ). setup_for (record old { count = count })) pumping.count in
    let moved = subst (λ (setup : Setup). StandsFor new (delivered setup pumping.last number).1 × (new.count ≡ mid.count) × (after ≡ between ++ lines_text (delivered setup pumping.last number).0))
    setup_same becomes in
    record {
      lines = pumping.lines ++ (delivered (setup_for old) pumping.last number).0;
      last = (delivered (setup_for old) pumping.last number).1;
      delivers = Delivers.more k pumping.lines pumping.last number pumping.delivers next;
      stands = moved.0;
      count = moved.1 ∙ pumping.count;
      text =
          moved.2 ∙ ap (λ (front : List ℕ). front ++ lines_text (delivered (setup_for old) pumping.last number).0) pumping.text
          ∙ append_assoc before (lines_text pumping.lines) (lines_text (delivered (setup_for old) pumping.last number).0)
          ∙ ap (λ (rest : List ℕ). before ++ rest) (sym (flat_map-append line_text pumping.lines (delivered (setup_for old) pumping.last number).0));
    }

pub pumped-end : (old new : Table) (before after : List ℕ) (scene : Scene) (most k : ℕ) (over : Bool) (pumping : Pumping old new before after scene k) → k ≤ most
    → MatchBool over (next_fresh pumping.last ≡ None) (k ≡ most) → HasPumped old new before after scene most over
pumped-end old new before after scene most k over pumping within is = record {
  k = k;
  lines = pumping.lines;
  last = pumping.last;
  delivers = pumping.delivers;
  within = within;
  over_is = is;
  stands = pumping.stands;
  count = pumping.count;
  text = pumping.text;
}

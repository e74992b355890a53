-- Of what was let out no two reports tell how one transaction ends, and one that does is its own site's.
use Rattle.std.proofs.Common.{◌≡◌, ◌⊎◌, inl, inr, ⊎_elim, ℕ, ◌<◌, Bool, true, false, if◌then◌else◌, Option, Some, None, List, [], ◌∷◌, ◌++◌, drop, length, map, refl, sym, ap, subst, ◌∙◌}
use Rattle.std.specs.Prelude.{⊤}
use Rattle.std.specs.List.{AllPairs, Contains}
use Rattle.std.proofs.lemmas.Bool.{eqb-true}
use Rattle.std.proofs.lemmas.List.{map-append}
use Rattle.std.proofs.lemmas.List.Elements.{All-contains, Contains-append_cases, Contains-append_left}
use Rattle.pv_base.proofs.Basics.{Some_inj}
use Rattle.pv_base.proofs.ContainsLemmas.{Contains-behind, Contains-cases, Contains-first, Contains-nil}
use Rattle.pv_base.proofs.MapLemmas.{Contains-map, Contains-unmap}
use Rattle.pv_base.proofs.OrderLemmas.{pairs-cons, pairs-first, pairs-map, pairs-nil, pairs-tail}
use Rattle.pv_base.specs.declared.txn.TxnId.{TxnId}
use Rattle.pv_format.specs.Message.{Envelope}
use Rattle.pv_law_agreement.proofs.Lists.{pairs-across, pairs-rest}
use Rattle.pv_law_ends.proofs.Pairs.{pairs-front, pairs-join}
use Rattle.pv_law_ends.specs.Ends.{TellOtherEnds, TellsEnd, TxnsEndAtHome, TxnsEndOnce}
use Rattle.pv_law_world.specs.Transitions.{site_of}
use Rattle.pv_model.specs.Events.{Event}
use Rattle.pv_protocol.specs.Committed.{home_of}
use Rattle.pv_protocol.specs.Lines.{Line, line_of}
use Rattle.pv_protocol.specs.Places.{Place, world_before}
use Rattle.pv_protocol.specs.Run.{lines_of_transitions, run}
use Rattle.pv_protocol.specs.State.{Note, Setup}
use Rattle.pv_protocol.specs.World.{World, opening}
use Rattle.pv_protocol.specs.WorldStep.{Transition}
use Rattle.pv_embed.specs.Held.{Out, message, note}
use Rattle.pv_law_hosted.proofs.AgreeLemmas.{IsPrinted, from-printed, in-printed}
use Rattle.pv_law_hosted.proofs.WithinLemmas.{within-made}
use Rattle.pv_law_hosted.specs.Deployment.{Deployment, station_at}
use Rattle.pv_law_hosted.specs.Made.{IsWithin, Made, is_of, made_as, made_by, made_from, made_in, none, prints, same, sends, starts, stops}
use Rattle.pv_law_hosted.specs.Mirrored.{IsMirrored}
use Rattle.pv_law_hosted.specs.Reports.{reports_of}

-- ## What is made
-- Both aren't lines that tell how one transaction ends.
abbrev MakeOtherEnds : Made → Made → Type 0
MakeOtherEnds (sends envelope) later = ⊤
MakeOtherEnds (prints line) (sends envelope) = ⊤
MakeOtherEnds (prints line) (prints later) = TellOtherEnds line later

across-made : (lines more : List Line) → ((line later : Line) → Contains lines line → Contains more later → TellOtherEnds line later)
    → (one other : Made) → IsPrinted lines one → IsPrinted more other → MakeOtherEnds one other
across-made lines more across (sends envelope) other here there = tt
across-made lines more across (prints line) (sends envelope) here there = tt
across-made lines more across (prints line) (prints later) here there = across line later here there

sends-apart : (all : List Envelope) → AllPairs MakeOtherEnds (map sends all)
sends-apart [] = pairs-nil MakeOtherEnds
sends-apart (envelope ∷ all) = pairs-cons MakeOtherEnds (sends envelope) (map sends all) (λ later there. tt) (sends-apart all)

if-apart : (test : Bool) (made : List Made) → AllPairs MakeOtherEnds made → AllPairs MakeOtherEnds (if test then made else [])
if-apart true made pairs = pairs
if-apart false made pairs = pairs-nil MakeOtherEnds

in-apart : (n : ℕ) (world : World) (transition : Transition) → AllPairs TellOtherEnds transition.lines → AllPairs MakeOtherEnds (made_in n world transition)
in-apart n world transition pairs =
    let sent = drop (length world.sent) transition.world.sent in
    if-apart (is_of n (site_of world transition.event)) (map sends sent ++ map prints transition.lines)
    (pairs-join MakeOtherEnds (map sends sent) (map prints transition.lines) (sends-apart sent) (pairs-map MakeOtherEnds prints transition.lines pairs)
    (λ one other here there. let found = Contains-unmap sends sent one here in subst (λ (it : Made). MakeOtherEnds it other) found.1.1 tt))

from-apart : (n : ℕ) (world : World) (transitions : List Transition) → AllPairs TellOtherEnds (lines_of_transitions transitions)
    → AllPairs MakeOtherEnds (made_from n world transitions)
from-apart n world [] pairs = pairs-nil MakeOtherEnds
from-apart n world (transition ∷ transitions) pairs =
    let lines = transition.lines in
    let rest = lines_of_transitions transitions in
    pairs-join MakeOtherEnds (made_in n world transition) (made_from n transition.world transitions) (in-apart n world transition (pairs-front TellOtherEnds lines rest pairs))
    (from-apart n transition.world transitions (pairs-rest TellOtherEnds lines rest pairs))
    (λ one other here there.
    across-made lines rest (λ line later first second. pairs-across TellOtherEnds lines rest pairs line later first second) one other
    (All-contains (IsPrinted lines) (made_in n world transition) one (in-printed n world transition) here)
    (All-contains (IsPrinted rest) (made_from n transition.world transitions) other (from-printed n transition.world transitions) there))

-- ## What was let out
within-apart : (n : ℕ) (out made : List Made) → IsWithin n out made → AllPairs MakeOtherEnds made → AllPairs MakeOtherEnds out
within-apart n out made none pairs = pairs
within-apart n out made (same one out' made' within) pairs =
    pairs-cons MakeOtherEnds one out'
    (λ later there. pairs-first MakeOtherEnds one made' pairs later (All-contains (Contains made') out' later (within-made n out' made' within) there))
    (within-apart n out' made' within (pairs-tail MakeOtherEnds one made' pairs))
within-apart n out made (starts epoch out' made' within) pairs =
    within-apart n out made' within (pairs-tail MakeOtherEnds (prints (Line.started n epoch)) made' pairs)
within-apart n out made (stops out' all lost made' is within) pairs =
    within-apart n out made' within
    (pairs-tail MakeOtherEnds (prints (Line.stopped n)) made' (pairs-rest MakeOtherEnds lost (prints (Line.stopped n) ∷ made') (subst (AllPairs MakeOtherEnds) is pairs)))

module _ (n : ℕ) where
  report-made : (outs : List Out) (line : Line) → Contains (reports_of n outs) line → Contains (map (made_as n) outs) (prints line)
  report-made [] line there = absurd (Contains-nil line there)
  report-made (message envelope ∷ outs) line there = Contains-behind (sends envelope) (map (made_as n) outs) (prints line) (report-made outs line there)
  report-made (note reported ∷ outs) line there =
      ⊎_elim
      (λ is. subst (λ (l : Line). Contains (prints (line_of n reported) ∷ map (made_as n) outs) (prints l)) is (Contains-first (prints (line_of n reported)) (map (made_as n) outs)))
      (λ behind. Contains-behind (prints (line_of n reported)) (map (made_as n) outs) (prints line) (report-made outs line behind))
      (Contains-cases (line_of n reported) (reports_of n outs) line there)

  reports-apart : (outs : List Out) → AllPairs MakeOtherEnds (map (made_as n) outs) → AllPairs TellOtherEnds (reports_of n outs)
  reports-apart [] pairs = pairs-nil TellOtherEnds
  reports-apart (message envelope ∷ outs) pairs = reports-apart outs (pairs-tail MakeOtherEnds (sends envelope) (map (made_as n) outs) pairs)
  reports-apart (note reported ∷ outs) pairs =
      pairs-cons TellOtherEnds (line_of n reported) (reports_of n outs)
      (λ line there. pairs-first MakeOtherEnds (prints (line_of n reported)) (map (made_as n) outs) pairs (prints line) (report-made outs line there))
      (reports-apart outs (pairs-tail MakeOtherEnds (prints (line_of n reported)) (map (made_as n) outs) pairs))

module _ (setup : Setup) (d : Deployment) (events : List Event) (n : ℕ) (mirrored : IsMirrored setup d events) (below : n < setup.catalog.sites) where
  abbrev out : List Out
  out = (station_at d n).let_out

  abbrev rest : List Out
  rest = (mirrored.each n below).rest

  abbrev all : List Made
  all = map (made_as n) (out ++ rest)

  within : IsWithin n all (made_by setup n events)
  within = (mirrored.each n below).within

  pub reported-once : TxnsEndOnce (run setup (opening setup) events) → AllPairs TellOtherEnds (reports_of n out)
  reported-once once =
      let pairs : AllPairs MakeOtherEnds all =
      within-apart n all (made_by setup n events) within (from-apart n (opening setup) (run setup (opening setup) events) once) in
      reports-apart n out
      (pairs-front MakeOtherEnds (map (made_as n) out) (map (made_as n) rest) (subst (AllPairs MakeOtherEnds) (map-append (made_as n) out rest) pairs))

  -- ## Where it was made
  -- A transition of this site prints the line.
  record MadeAt (world : World) (transitions : List Transition) (line : Line) : Type 0 where
    place : Place transitions
    there : Contains place.transition.lines line
    site : site_of (world_before world place) place.transition.event ≡ Some n

  made-later : (world : World) (first : Transition) (transitions : List Transition) (line : Line) → MadeAt first.world transitions line → MadeAt world (first ∷ transitions) line
  made-later world first transitions line at = record {
    place = record {
      earlier = first ∷ at.place.earlier;
      transition = at.place.transition;
      later = at.place.later;
      split = ap (λ (l : List Transition). first ∷ l) at.place.split;
    };
    there = at.there;
    site = at.site;
  }

  of-site : (at : Option ℕ) → is_of n at ≡ true → at ≡ Some n
  of-site None is = absurd cc
  of-site (Some k) is = ap Some (eqb-true k n is)

  of-test : (test : Bool) (made : List Made) (one : Made) → Contains (if test then made else []) one → (test ≡ true) × Contains made one
  of-test true made one there = (refl, there)
  of-test false made one there = absurd (Contains-nil one there)

  a-line : (sent : List Envelope) (lines : List Line) (line : Line) → Contains (map sends sent) (prints line) ⊎ Contains (map prints lines) (prints line) → Contains lines line
  a-line sent lines line (inl there) = let found = Contains-unmap sends sent (prints line) there in let wrong : sends found.0 ≡ prints line = found.1.1 in absurd cc
  a-line sent lines line (inr there) =
      let found = Contains-unmap prints lines (prints line) there in
      let printed : prints found.0 ≡ prints line = found.1.1 in
      let is : found.0 ≡ line = cc in
      subst (Contains lines) is found.1.0

  made-at : (world : World) (transitions : List Transition) (line : Line) → Contains (made_from n world transitions) (prints line) → MadeAt world transitions line
  made-at world [] line there = absurd (Contains-nil (prints line) there)
  made-at world (transition ∷ transitions) line there =
      let sent = drop (length world.sent) transition.world.sent in
      let made = map sends sent ++ map prints transition.lines in
      ⊎_elim
      (λ now.
      let inside = of-test (is_of n (site_of world transition.event)) made (prints line) now in
      record {
        place = record { earlier = []; transition = transition; later = transitions; split = refl };
        there = a-line sent transition.lines line (Contains-append_cases (map sends sent) (map prints transition.lines) (prints line) inside.1);
        site = of-site (site_of world transition.event) inside.0;
      })
      (λ later. made-later world transition transitions line (made-at transition.world transitions line later))
      (Contains-append_cases (made_in n world transition) (made_from n transition.world transitions) (prints line) there)

  pub reported-home : TxnsEndAtHome (opening setup) (run setup (opening setup) events) → (reported : Note) (txn : TxnId) → Contains out (note reported)
      → TellsEnd txn (line_of n reported) → home_of txn ≡ n
  reported-home home reported txn there tells =
      let made : Contains (made_by setup n events) (prints (line_of n reported)) =
      All-contains (Contains (made_by setup n events)) all (prints (line_of n reported)) (within-made n all (made_by setup n events) within)
      (Contains-map (made_as n) (out ++ rest) (note reported) (Contains-append_left out rest (note reported) there)) in
      let at = made-at (opening setup) (run setup (opening setup) events) (line_of n reported) made in
      Some_inj (sym (home at.place txn (line_of n reported) at.there tells) ∙ at.site)

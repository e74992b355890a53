-- What was let out was sent or printed, and what is shown is what the serial run leaves.
use Rattle.std.proofs.Common.{◌≡◌, ℕ, ◌+◌, ◌<◌, Bool, true, false, if◌then◌else◌, Some, None, List, [], ◌∷◌, ◌++◌, length, map, drop, All, IsTrue, sym, ap, ◌∙◌, subst, arith}
use Rattle.std.specs.List.{Contains}
use Rattle.std.specs.Prelude.{slice_get, ⊤}
use mathlib.Core.Logic.{dite}
use native.Mathlib.Decide.{dec_le}
use Rattle.std.proofs.lemmas.List.{get_or_past}
use Rattle.std.proofs.lemmas.List.Elements.{All-nil, All-cons, All-head, All-tail, All-append, All-contains, All-contains_itself, All-weaker, Contains-append_left, Contains-append_right}
use Rattle.pv_base.proofs.MapLemmas.{Contains-map}
use Rattle.pv_base.specs.Catalog.{Item}
use Rattle.pv_base.specs.declared.txn.TxnId.{TxnId}
use Rattle.pv_format.specs.Message.{Envelope}
use Rattle.pv_law_world.specs.Transitions.{site_of}
use Rattle.pv_model.specs.Events.{Event}
use Rattle.pv_model.specs.Meaning.{value_in}
use Rattle.pv_protocol.specs.Agreement.{Agrees}
use Rattle.pv_protocol.specs.Committed.{Fits, is_readable, serial_rows}
use Rattle.pv_protocol.specs.Lines.{Line, line_of}
use Rattle.pv_protocol.specs.Run.{lines_of_transitions, printed, run, world_after, worlds_of}
use Rattle.pv_protocol.specs.Shown.{item_value}
use Rattle.pv_protocol.specs.State as model
use Rattle.pv_protocol.specs.State.{Setup, Site}
use Rattle.pv_protocol.specs.World.{World, opening, site_at}
use Rattle.pv_protocol.specs.WorldStep.{Transition}
use Rattle.pv_embed.specs.Held.{note}
use Rattle.pv_embed.specs.Hosted.{HostedState}
use Rattle.pv_law_hosted.proofs.WithinLemmas.{within-made}
use Rattle.pv_law_hosted.specs.Deployment.{Deployment, Station, no_station, station_at}
use Rattle.pv_law_hosted.specs.Made.{Made, sends, prints, is_of, made_as, made_by, made_from, made_in}
use Rattle.pv_law_hosted.specs.Mirrored.{IsMirrored, plain_site, world_of}

-- ## Lines
-- The line was printed, where it is one.
abbrev pub IsPrinted : List Line → Made → Type 0
IsPrinted lines (sends envelope) = ⊤
IsPrinted lines (prints line) = Contains lines line

later-printed : (before lines : List Line) (made : Made) → IsPrinted lines made → IsPrinted (before ++ lines) made
later-printed before lines (sends envelope) is = tt
later-printed before lines (prints line) is = Contains-append_right before lines line is

sends-printed : (lines : List Line) (all : List Envelope) → All (IsPrinted lines) (map sends all)
sends-printed lines [] = All-nil (IsPrinted lines)
sends-printed lines (envelope ∷ all) = All-cons (IsPrinted lines) (sends envelope) (map sends all) tt (sends-printed lines all)

prints-printed : (lines all : List Line) → All (Contains lines) all → All (IsPrinted lines) (map prints all)
prints-printed lines [] is = All-nil (IsPrinted lines)
prints-printed lines (line ∷ all) is =
    All-cons (IsPrinted lines) (prints line) (map prints all) (All-head (Contains lines) line all is) (prints-printed lines all (All-tail (Contains lines) line all is))

if-printed : (lines : List Line) (test : Bool) (made : List Made) → All (IsPrinted lines) made → All (IsPrinted lines) (if test then made else [])
if-printed lines true made all = all
if-printed lines false made all = All-nil (IsPrinted lines)

earlier-printed : (lines after : List Line) (made : Made) → IsPrinted lines made → IsPrinted (lines ++ after) made
earlier-printed lines after (sends envelope) is = tt
earlier-printed lines after (prints line) is = Contains-append_left lines after line is

pub in-printed : (n : ℕ) (world : World) (transition : Transition) → All (IsPrinted transition.lines) (made_in n world transition)
in-printed n world transition =
    let lines = transition.lines in
    let sent = drop (length world.sent) transition.world.sent in
    if-printed lines (is_of n (site_of world transition.event)) (map sends sent ++ map prints lines)
    (All-append (IsPrinted lines) (map sends sent) (map prints lines) (sends-printed lines sent) (prints-printed lines lines (All-contains_itself lines)))

pub from-printed : (n : ℕ) (world : World) (transitions : List Transition) → All (IsPrinted (lines_of_transitions transitions)) (made_from n world transitions)
from-printed n world [] = All-nil (IsPrinted [])
from-printed n world (transition ∷ transitions) =
    let rest = lines_of_transitions transitions in
    let all = transition.lines ++ rest in
    All-append (IsPrinted all) (made_in n world transition) (made_from n transition.world transitions)
    (All-weaker (IsPrinted transition.lines) (IsPrinted all) (λ made is. earlier-printed transition.lines rest made is) (made_in n world transition)
    (in-printed n world transition))
    (All-weaker (IsPrinted rest) (IsPrinted all) (λ made is. later-printed transition.lines rest made is) (made_from n transition.world transitions)
    (from-printed n transition.world transitions))

pub out-printed : (setup : Setup) (d : Deployment) (events : List Event) (n : ℕ) (reported : model.Note) → IsMirrored setup d events → n < setup.catalog.sites
    → Contains (station_at d n).let_out (note reported) → Contains (printed setup events) (line_of n reported)
unfolding printed
out-printed setup d events n reported mirrored below there =
    let follows = mirrored.each n below in
    let out = (station_at d n).let_out in
    let all = map (made_as n) (out ++ follows.rest) in
    let made : Contains (made_by setup n events) (prints (line_of n reported)) =
    All-contains (Contains (made_by setup n events)) all (prints (line_of n reported)) (within-made n all (made_by setup n events) follows.within)
    (Contains-map (made_as n) (out ++ follows.rest) (note reported) (Contains-append_left out follows.rest (note reported) there)) in
    All-contains (IsPrinted (lines_of_transitions (run setup (opening setup) events))) (made_by setup n events) (prints (line_of n reported))
    (from-printed n (opening setup) (run setup (opening setup) events)) made

-- ## Readings
pub last-world : (P : World → Type 0) (world : World) (transitions : List Transition) → All P (worlds_of world transitions) → P (world_after world transitions)
last-world P world [] all = All-head P world [] all
last-world P world (transition ∷ transitions) all =
    last-world P transition.world transitions (All-tail P world (worlds_of transition.world transitions) all)

up-within : (d : Deployment) (n : ℕ) (hosted : HostedState) (count : ℕ) → length d ≡ count → (station_at d n).hosted ≡ Some hosted → n < count
up-within d n hosted count all is =
    dite (dec_le (n + 1) count) (λ below. omega (arith, below))
    (λ beyond.
    let gone : (station_at d n).hosted ≡ None = ap (λ (s : Station). s.hosted) (get_or_past d n no_station (omega (arith, all, beyond))) in
    let wrong : Some hosted ≡ None = sym is ∙ gone in absurd cc)

pub shown-agrees : (setup : Setup) (d : Deployment) (events : List Event) (hosted : HostedState) (assignment : List TxnId) (i : ℕ) (item : Item)
    → All (Agrees setup) (worlds_of (opening setup) (run setup (opening setup) events))
    → site_at (world_of setup events) item.site ≡ plain_site hosted.site.records hosted.site.running
    → slice_get setup.catalog.items i ≡ Some item → IsTrue (is_readable hosted.site.running i) → Fits (world_of setup events) assignment
    → item_value setup.catalog hosted.site.records i assignment ≡ value_in (serial_rows setup (world_of setup events) assignment) i
shown-agrees setup d events hosted assignment i item agree site is readable fits =
    ap (λ (s : Site). item_value setup.catalog s.records i assignment) (sym site)
    ∙ last-world (Agrees setup) (opening setup) (run setup (opening setup) events) agree assignment fits i item is
    (subst (λ (s : Site). IsTrue (is_readable s.running i)) (sym site) readable)

pub shown-within : (setup : Setup) (d : Deployment) (events : List Event) (hosted : HostedState) (n : ℕ) → IsMirrored setup d events
    → (station_at d n).hosted ≡ Some hosted → n < setup.catalog.sites
shown-within setup d events hosted n mirrored is = up-within d n hosted setup.catalog.sites mirrored.stations is

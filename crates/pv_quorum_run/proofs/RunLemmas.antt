-- A run of a script, event by event, and the text of what it prints.
use Rattle.std.proofs.Common.{◌≡◌, ℕ, List, [], ◌∷◌, ◌++◌, sym, ap, subst, ◌∙◌}
use Rattle.std.proofs.lemmas.List.Concat.{flat_map-append}
use Rattle.pv_base.specs.declared.limits.TheConstants.{MAX_JOURNAL}
use Rattle.pv_law_decisions.specs.Lines.{Line, line_text, lines_text}
use Rattle.pv_law_decisions.specs.Runs.{Happens, Runs}
use Rattle.pv_law_decisions.specs.Scene.{Scene, at_first}
use Rattle.pv_quorum.specs.DeciderState.{setup_of}
use Rattle.pv_quorum_run.specs.Happening.{HasHappened}
use Rattle.pv_quorum_run.specs.Stands.{StandsFor}
use Rattle.pv_quorum_run.specs.declared.table.Table.{Table}
use Rattle.pv_quorum_script.specs.declared.event.QuorumEvent.{QuorumEvent}

-- These events have happened: the deciders in memory are those of the scene after them, and the text is what they print.
pub record HasRun (count : ℕ) (events : List QuorumEvent) (table : Table) (text : List ℕ) : Type 0 where
  pub lines : List Line
  pub scene : Scene
  pub runs : Runs (setup_of count MAX_JOURNAL) (at_first (setup_of count MAX_JOURNAL)) events lines scene
  pub stands : StandsFor table scene
  pub count_is : table.count ≡ count
  pub text_is : text ≡ lines_text lines

pub none-run : (count : ℕ) (table : Table) (text : List ℕ) → StandsFor table (at_first (setup_of count MAX_JOURNAL)) → table.count ≡ count → text ≡ [] → HasRun count [] table text
none-run count table text stands same empty = record {
  lines = [];
  scene = at_first (setup_of count MAX_JOURNAL);
  runs = Runs.none;
  stands = stands;
  count_is = same;
  text_is = empty;
}

-- One event more.
pub one-run : (count : ℕ) (events : List QuorumEvent) (old new : Table) (before after : List ℕ) (event : QuorumEvent) (run : HasRun count events old before)
    → HasHappened old new before after run.scene event → HasRun count (events ++ event ∷ []) new after
one-run count events old new before after event run has = record {
  lines = run.lines ++ has.lines;
  scene = has.last;
  runs = Runs.more events run.lines run.scene event has.lines has.last run.runs
      (subst (λ (k : ℕ). Happens (setup_of k MAX_JOURNAL) run.scene event has.lines has.last) run.count_is has.happens);
  stands = has.stands;
  count_is = has.count ∙ run.count_is;
  text_is = has.text ∙ ap (λ (front : List ℕ). front ++ lines_text has.lines) run.text_is ∙ sym (flat_map-append line_text run.lines has.lines);
}

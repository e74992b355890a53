-- What a step reports names only items of the catalog.
use Rattle.std.proofs.Common.{◌≡◌, ℕ, suc, ◌+◌, ◌<◌, Bool, true, false, List, [], ◌∷◌, length, refl, arith}
use Rattle.std.specs.Prelude.{not, ◌||◌, ◌&&◌, ◌==◌, if◌then◌else◌}
use Rattle.std.specs.List.{Contains, list_any}
use Rattle.std.proofs.lemmas.Bool.{eqb-true}
use Rattle.pv_base.specs.Catalog.{Item}
use Rattle.pv_base.specs.Want.{Want}
use Rattle.pv_base.specs.declared.txn.TxnId.{TxnId}
use Rattle.pv_format.specs.Message.{grant_lost, journal_full}
use Rattle.pv_law_answers.proofs.RefusalNotes.{Refuses, by_width, by_doubt, by_denial, by_room, by_vote, by_time, refusal-noted}
use Rattle.pv_law_step.proofs.DoubtLemmas.{first-is}
use Rattle.pv_model.specs.Check.{names_item}
use Rattle.pv_model.specs.Plan.{want_of, wants_from}
use Rattle.pv_model.specs.Syntax.{Program}
use Rattle.pv_protocol.specs.Granted.{taking, asked_of, is_unawaited, is_wanted}
use Rattle.pv_protocol.specs.Here.{Here}
use Rattle.pv_protocol.specs.Lines.{line_of}
use Rattle.pv_protocol.specs.State.{Input, Note, began, committed, refused, full, spent, Cause}
use Rattle.pv_protocol.specs.Step.{step_on}
use Rattle.pv_report.specs.NamesOnlyItems.{CauseNamesOnlyItems, NamesOnlyItems}

-- What a coordinator asks of a site are items of the catalog.

wanted-here : (item k n : ℕ) (rest : List Want) (first : Bool) → (k == item) ≡ first → (first || list_any (λ (want : Want). want.item == item) rest) ≡ true
    → (list_any (λ (want : Want). want.item == item) rest ≡ true → item < k + suc n) → item < k + suc n
wanted-here item k n rest true is wanted behind = let same = eqb-true k item is in omega (arith, same)
wanted-here item k n rest false is wanted behind = behind wanted

wanted-either : (program : Program) (item k n : ℕ) (rest : List Want) (b : Bool) → list_any (λ (want : Want). want.item == item) (if b then want_of program k ∷ rest else rest) ≡ true
    → (list_any (λ (want : Want). want.item == item) rest ≡ true → item < k + suc n) → item < k + suc n
wanted-either program item k n rest true wanted behind = wanted-here item k n rest (k == item) refl wanted behind
wanted-either program item k n rest false wanted behind = behind wanted

wanted-below : (program : Program) (site item k : ℕ) (items : List Item) → list_any (λ (want : Want). want.item == item) (wants_from program site k items) ≡ true → item < k + length items
wanted-below program site item k [] wanted = let wrong : ⊥ = cc in absurd wrong
wanted-below program site item k (declared ∷ items) wanted =
    wanted-either program item k (length items) (wants_from program site (k + 1) items) (declared.site == site && names_item program k) wanted
    (λ more. let below = wanted-below program site item (k + 1) items more in omega (arith, below))

wanted-of-two : (unawaited wanted : Bool) → (unawaited || not wanted) ≡ false → wanted ≡ true
wanted-of-two true wanted is = let wrong : ⊥ = cc in absurd wrong
wanted-of-two false true is = refl
wanted-of-two false false is = let wrong : ⊥ = cc in absurd wrong

-- A refusal that a step notes names an item of the catalog, if it names one.
refusal-fine : (here : Here) (t : TxnId) (input : Input) (cause : Cause) → Refuses here t input cause → CauseNamesOnlyItems here.setup.catalog cause
refusal-fine here t _ _ (by_width from asked grant values entry last own wide is) = tt
refusal-fine here t _ _ (by_doubt from asked grant values entry item last own doubt is) =
    let below = (first-is here.records (taking entry from grant values) 0 here.setup.catalog.items item doubt).below in omega (arith, below)
refusal-fine here t _ _ (by_denial from asked item holder entry found own heard is) =
    let below = wanted-below entry.program from item 0 here.setup.catalog.items (wanted-of-two (is_unawaited here entry from) (is_wanted (asked_of here entry from) item) heard) in
    omega (arith, below)
refusal-fine here t _ _ (by_room from asked entry vote own crowded is) = tt
refusal-fine here t _ _ (by_vote from asked grant_lost entry vote own is) = tt
refusal-fine here t _ _ (by_vote from asked (journal_full bytes) entry vote own is) = tt
refusal-fine here t _ _ (by_time late expired own) = tt

pub note-fine : (here : Here) (input : Input) (n : ℕ) (note : Note) → Contains (step_on here input).notes note → NamesOnlyItems here.setup.catalog (line_of n note)
note-fine here input n (began t) noted = tt
note-fine here input n (committed t replies) noted = tt
note-fine here input n (refused t cause) noted = refusal-fine here t input cause (refusal-noted here t cause input noted)
note-fine here input n (full bytes) noted = tt
note-fine here input n spent noted = tt

-- Values that name no outcome: they are one everywhere, and so is what a program makes of them.
use Rattle.std.proofs.Common.{◌≡◌, ℕ, ℤ, Bool, ◌||◌, true, false, List, [], ◌∷◌, map, IsTrue, refl, sym, ap, ap₂, subst, ◌∙◌}
use Rattle.std.specs.Prelude.{Some, All}
use Rattle.std.specs.List.{list_all, list_any}
use Rattle.std.proofs.lemmas.Bool.{and_parts, false≢true}
use Rattle.std.proofs.lemmas.List.Elements.{All-nil, All-cons}
use Rattle.std.proofs.lemmas.List.Folds.{list_any-append}
use Rattle.pv_base.specs.declared.reply.Reply.{Reply}
use Rattle.pv_base.specs.declared.txn.TxnId.{TxnId}
use Rattle.pv_base.specs.Assignment.{is_same_txn}
use Rattle.pv_base.specs.Polyvalue.{Case, IsCanonical, IsPolyvalue, names, sure, value_at}
use Rattle.pv_cases.proofs.CountLemmas.{nothing-few, sure-polyvalue}
use Rattle.pv_cases.proofs.SureCases.{one-case-is}
use Rattle.pv_cases.specs.Sure.{is_one_case}
use Rattle.pv_law_polyvalues.proofs.PolyvalueLemmas.{one-canonical}
use Rattle.pv_model.specs.Alternatives.{Read, all_cases, assigned, rows_at}
use Rattle.pv_model.specs.Meaning.{Effect, Row, exec}
use Rattle.pv_model.specs.Syntax.{Program}
use Rattle.pv_split.specs.Splitting.{IsJoinedSplit}
use Rattle.pv_split.specs.Sure.{sure_read}
use Rattle.pv_split.proofs.OutcomeLemmas.{rows_at-chosen}

-- What is read.

pub sure-unnamed : (reads : List Read) → list_all (λ read. is_one_case read.cases) reads ≡ true → (t : TxnId) → names (all_cases reads) t ≡ false
sure-unnamed [] are t = refl
sure-unnamed (read ∷ reads) are t =
    let rest = list_all (λ (r : Read). is_one_case r.cases) reads in
    list_any-append (λ (case : Case ℤ). list_any (λ literal. is_same_txn t literal.txn) case.when) read.cases (all_cases reads)
    ∙ ap₂ (λ (b c : Bool). b || c) (ap (λ (cases : List (Case ℤ)). names cases t) (one-case-is read.cases (and_parts (is_one_case read.cases) rest are).0).1)
    (sure-unnamed reads (and_parts (is_one_case read.cases) rest are).1 t)

-- What is written and replied.

-- Cases with one value everywhere are one case that is always met.
pub same-everywhere : {V : Type 0} (cases : List (Case V)) (value : V) → IsCanonical cases → ((a : List TxnId) → value_at cases a ≡ Some value)
    → cases ≡ record { when = []; value = value } ∷ []
same-everywhere cases value canonical same = one-canonical cases (record { when = []; value = value } ∷ []) canonical (sure value) same

sure-rows : (rows : List Row) (a : List TxnId) → rows_at (map sure_read rows) a ≡ rows
sure-rows [] a = refl
sure-rows (row ∷ rows) a = ap (λ (rest : List Row). row ∷ rest) (sure-rows rows a)

sure-polyvalues : (limit : ℕ) (rows : List Row) → All (λ write. IsPolyvalue limit write.cases) (map sure_read rows)
sure-polyvalues limit [] = All-nil (λ (write : Read). IsPolyvalue limit write.cases)
sure-polyvalues limit (row ∷ rows) =
    All-cons (λ (write : Read). IsPolyvalue limit write.cases) (sure_read row) (map sure_read rows) (sure-polyvalue limit row.value refl) (sure-polyvalues limit rows)

abbrev NamesIn : List Read → Read → Type 0
NamesIn reads write = (t : TxnId) → IsTrue (names write.cases t) → IsTrue (names (all_cases reads) t)

sure-named : (reads : List Read) (rows : List Row) → All (NamesIn reads) (map sure_read rows)
sure-named reads [] = All-nil (NamesIn reads)
sure-named reads (row ∷ rows) = All-cons (NamesIn reads) (sure_read row) (map sure_read rows) (λ t named. absurd (false≢true named)) (sure-named reads rows)

-- What the program does where no transaction commits it does everywhere.
pub sure-joined : (limit : ℕ) (program : Program) (reads : List Read) → list_all (λ read. is_one_case read.cases) reads ≡ true
    → (effect : Effect) → effect ≡ exec program (rows_at reads []) → (writes : List Read) → writes ≡ map sure_read (assigned program effect.rows)
    → (reply : List (Case Reply)) → IsCanonical reply → ((a : List TxnId) → value_at reply a ≡ Some effect.reply)
    → IsJoinedSplit limit program reads (writes, reply)
sure-joined limit program reads are effect does writes written reply canonical replied =
    let unnamed = sure-unnamed reads are in
    let everywhere : (a : List TxnId) → effect ≡ exec program (rows_at reads a) =
    λ a. does ∙ ap (exec program) (rows_at-chosen reads [] (λ t named. absurd (false≢true (sym (unnamed t) ∙ named))) a) in
    let one = same-everywhere reply effect.reply canonical replied in
    record {
      few = nothing-few limit (all_cases reads) unnamed;
      split = record {
        written = λ a.
            ap (λ (some : List Read). rows_at some a) written
            ∙ sure-rows (assigned program effect.rows) a
            ∙ ap (λ (e : Effect). assigned program e.rows) (everywhere a);
        replied = λ a. replied a ∙ ap (λ (e : Effect). Some e.reply) (everywhere a);
      };
      writes = subst (All (λ (write : Read). IsPolyvalue limit write.cases)) (sym written) (sure-polyvalues limit (assigned program effect.rows));
      reply = sure-polyvalue limit effect.reply one;
      named_by_writes = subst (All (NamesIn reads)) (sym written) (sure-named reads (assigned program effect.rows));
      named_by_reply = λ t named. absurd (false≢true (ap (λ (cases : List (Case Reply)). names cases t) (sym one) ∙ named));
    }

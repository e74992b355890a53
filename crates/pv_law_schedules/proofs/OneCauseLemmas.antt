-- A line has one first cause.
use Rattle.std.proofs.Common.{◌≡◌, ℕ, Bool, false, List, length, refl, sym, ap, subst, ◌∙◌, arith}
use Rattle.std.specs.Prelude.{◌||◌, ◌==◌, if◌then◌else◌}
use Rattle.std.proofs.lemmas.Bool.{false≢true}
use Rattle.pv_model.specs.LineCauses as causes
use Rattle.pv_model.specs.LineCauses.{Before, declared_by, LineCause, line_cause_rank, HasLineCause, HasProgram, Has, IsFirstCause}
use Rattle.pv_model.specs.Check.{AreItems}
use Rattle.pv_model.specs.ProgramText.{Kind, at_fault, IsRefused, IsProgramText}
use Rattle.pv_model.specs.Syntax.{Program}
use Rattle.pv_model.specs.Text.{TextLine}
use Rattle.pv_law_programs.proofs.ItemLemmas.{one_items}
use Rattle.pv_law_schedules.proofs.LineTextLemmas.{one-text}
use Rattle.pv_law_programs.proofs.ProgramTextLemmas.{one_program_text, one_refusal}

-- the causes that say nothing more, by their ranks

abbrev pub says_more : ℕ → Bool
says_more r = r == 17 || r == 19

abbrev pub plain_of : ℕ → LineCause
plain_of r =
    if r == 0 then causes.too_long else (if r == 1 then causes.not_text else (if r == 2 then causes.sites_expected else
    (if r == 3 then causes.unknown_word else (if r == 4 then causes.twice else (if r == 5 then causes.too_late else
    (if r == 6 then causes.wrong_count else (if r == 7 then causes.client_expected else (if r == 8 then causes.too_many_clients else
    (if r == 9 then causes.too_many_requests else (if r == 10 then causes.no_such_item else (if r == 11 then causes.other_site else
    (if r == 12 then causes.bad_number else (if r == 13 then causes.bad_mode else (if r == 14 then causes.bad_name else
    (if r == 15 then causes.name_taken else (if r == 16 then causes.too_many_items else
    (if r == 18 then causes.names_no_item else (if r == 20 then causes.query_assigns else
    (if r == 21 then causes.no_return else causes.not_a_trace)))))))))))))))))))

pub plain-cause : (c : LineCause) → says_more (line_cause_rank c) ≡ false → c ≡ plain_of (line_cause_rank c)
plain-cause causes.too_long e = refl
plain-cause causes.not_text e = refl
plain-cause causes.sites_expected e = refl
plain-cause causes.unknown_word e = refl
plain-cause causes.twice e = refl
plain-cause causes.too_late e = refl
plain-cause causes.wrong_count e = refl
plain-cause causes.client_expected e = refl
plain-cause causes.too_many_clients e = refl
plain-cause causes.too_many_requests e = refl
plain-cause causes.no_such_item e = refl
plain-cause causes.other_site e = refl
plain-cause causes.bad_number e = refl
plain-cause causes.bad_mode e = refl
plain-cause causes.bad_name e = refl
plain-cause causes.name_taken e = refl
plain-cause causes.too_many_items e = refl
plain-cause (causes.at_program kind column) e = absurd (false≢true (sym e))
plain-cause causes.names_no_item e = refl
plain-cause (causes.too_many_names n) e = absurd (false≢true (sym e))
plain-cause causes.query_assigns e = refl
plain-cause causes.no_return e = refl
plain-cause causes.not_a_trace e = refl

same-fault : (k l : Kind) (m n : ℕ) → at_fault k m ≡ at_fault l n → causes.at_program k m ≡ causes.at_program l n
same-fault k l m n e = let kind : k ≡ l = cc in let column : m ≡ n = cc in λ i. causes.at_program (kind i) (column i)

same-refused : (before : Before) (line : TextLine) (k l : Kind) (m n : ℕ) → HasLineCause before line (causes.at_program k m) → HasLineCause before line (causes.at_program l n) → causes.at_program k m ≡ causes.at_program l n
same-refused before line k l m n is also =
    let text : is.0 ≡ also.0 = one-text before.script line is.0 also.0 is.1 also.1 in
    same-fault k l m n (one_refusal (declared_by before) also.0 (at_fault k m) (at_fault l n) (subst (λ (t : List ℕ). IsRefused (declared_by before) t (at_fault k m)) text is.2) also.2)

pub same-program : (before : Before) (line : TextLine) (p q : Program) → HasProgram before line p → HasProgram before line q → p ≡ q
same-program before line p q is also =
    let text : is.0 ≡ also.0 = one-text before.script line is.0 also.0 is.1 also.1 in
    one_program_text (declared_by before) also.0 p q (subst (λ (t : List ℕ). IsProgramText (declared_by before) t p) text is.2) also.2

same-count : (before : Before) (line : TextLine) (m n : ℕ) → HasLineCause before line (causes.too_many_names m) → HasLineCause before line (causes.too_many_names n) → m ≡ n
same-count before line m n is also =
    let p : is.0 ≡ also.0 = same-program before line is.0 also.0 is.1 also.1 in
    let items : is.2 ≡ also.2 = one_items also.0 is.2 also.2 (subst (λ (p : Program). AreItems p is.2) p is.3) also.3 in
    is.4 ∙ ap (λ (l : List ℕ). length l) items ∙ sym also.4

with-fault : (before : Before) (line : TextLine) (k : Kind) (m : ℕ) (d : LineCause) → HasLineCause before line (causes.at_program k m) → HasLineCause before line d → line_cause_rank d ≡ 17 → causes.at_program k m ≡ d
with-fault before line k m (causes.at_program l n) is also e = same-refused before line k l m n is also
with-fault before line k m d is also e = absurd (omega (arith, e))

with-count : (before : Before) (line : TextLine) (m : ℕ) (d : LineCause) → HasLineCause before line (causes.too_many_names m) → HasLineCause before line d → line_cause_rank d ≡ 19 → causes.too_many_names m ≡ d
with-count before line m (causes.too_many_names n) is also e = ap causes.too_many_names (same-count before line m n is also)
with-count before line m d is also e = absurd (omega (arith, e))

one-by-rank : (before : Before) (line : TextLine) (c d : LineCause) → HasLineCause before line c → HasLineCause before line d → line_cause_rank d ≡ line_cause_rank c → c ≡ d
one-by-rank before line (causes.at_program k m) d is also e = with-fault before line k m d is also e
one-by-rank before line (causes.too_many_names m) d is also e = with-count before line m d is also e
one-by-rank before line c d is also e = plain-cause c refl ∙ ap plain_of (sym e) ∙ sym (plain-cause d (ap says_more e))

pub one-cause : {before : Before} {line : TextLine} {c d : LineCause} → IsFirstCause before line c → IsFirstCause before line d → c ≡ d
one-cause {before} {line} {c} {d} is also =
    one-by-rank before line c d is.has also.has (omega (arith, is.first d also.has, also.first c is.has))

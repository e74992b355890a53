-- A possible reply is the value of a case, which some assignment meets.
use Rattle.std.proofs.Common.{⊎_elim, Bool, List, [], ◌∷◌, filter, map, sym, subst, ◌∙◌}
use Rattle.std.specs.Prelude.{not}
use Rattle.std.specs.List.{Contains}
use Rattle.pv_base.proofs.Basics.{Some_inj}
use Rattle.pv_base.proofs.ContainsLemmas.{Contains-behind, Contains-cases, Contains-first}
use Rattle.pv_base.proofs.MapLemmas.{Contains-unmap}
use Rattle.pv_base.specs.Polyvalue.{Case}
use Rattle.pv_base.specs.declared.reply.Reply.{Reply}
use Rattle.pv_law_answers.proofs.runs.each_answer_is_given.Goals as goal
use Rattle.pv_law_canonical.proofs.FilterLemmas.{kept-listed}
use Rattle.pv_law_polyvalues.proofs.ExistenceLemmas.{case-met}
use Rattle.pv_model.specs.PossibleAnswers.{without_repeats}
use Rattle.pv_model.specs.Replies.{is_same_reply}

-- What is left without repeats was there.
kept-there : {V : Type 0} (same : V → V → Bool) (values : List V) (v : V) → Contains (without_repeats same values) v → Contains values v
kept-there same [] v h = h
kept-there same (x ∷ values) v h =
    ⊎_elim
    (λ first. subst (Contains (x ∷ values)) first (Contains-first x values))
    (λ behind. Contains-behind x values v (kept-there same values v (kept-listed (λ y. not (same x y)) (without_repeats same values) v behind)))
    (Contains-cases x (filter (λ y. not (same x y)) (without_repeats same values)) v h)

pub returns : goal.returns
returns c = λ world transition txn replies possible reply h.
    let there = kept-there is_same_reply (map (λ (case : Case Reply). case.value) possible.value) reply (subst (λ rs. Contains rs reply) possible.given h) in
    let found = Contains-unmap (λ (case : Case Reply). case.value) possible.value reply there in
    let met = case-met possible.value possible.canonical found.0 found.1.0 in
    (met.0, Some_inj (sym (possible.replied met.0) ∙ met.1) ∙ found.1.1)

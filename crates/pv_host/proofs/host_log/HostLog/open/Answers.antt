use Rattle.std.proofs.Common.{◌≡◌, arith, length, map, refl, sym, ◌∙◌, ap}
use Rattle.std.proofs.lemmas.List.{length-map}
use Rattle.pv_disk_model.specs.Size.{size_of}
use Rattle.pv_host.proofs.HostLemmas.{all_found, end_found, stored_found, told_on}
use Rattle.pv_host.proofs.host_log.HostLog.open.Goals as goal

pub returns-in-Err-clause-answer : goal.returns-in-Err-clause-answer
returns-in-Err-clause-answer c = told_on _ _ _ _ _ _ c.in-Err.ensures.answer

pub invariant_of-result : goal.invariant_of-result
invariant_of-result c =
    let contents = map (λ it. it.items) c.in-Ok.contents.items in
    let is : map (λ it. it.items) c.found.result.items ≡ contents = ap (λ l. map (λ it. it.items) l) (c.found.ensures ∙ c.deref-2.ensures.value) in
    let sized = c.in-Some.ensures c.in-Some.length refl in
    let size = sized.0 ∙ ap (λ l. size_of (map (λ it. it.items) l)) c.deref.ensures.value in
    -- nothing was stored by the log yet, and nothing waits: the names of the calls `Waiting::new` and `History::new` are the check's
    let stored = stored_found (map (λ it. it.items) c.found.result.items) c.new-2.result.items contents is c.new-2.ensures in
    let all = all_found _ c.new.result.asked c.new.result.pending contents stored c.new.ensures.asked c.new.ensures.pending in
    record {
      records_are = omega (arith, ap length stored, length-map c.in-Ok.contents.items (λ it. it.items));
      group_is = ap length (sym c.new.ensures.asked);
      end_is = end_found _ contents c.in-Some.length stored size;
      length_is = size ∙ ap size_of (sym all);
      bounded = sized.1;
      limited = c.requires.most;
      gate = λ _. refl;
      unread = sym all;
    }

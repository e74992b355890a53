-- A request is kept behind the others, unless its transaction has one.
use Rattle.std.proofs.Common.{◌≡◌, Bool, true, false, Option, None, Some, List, [], ◌∷◌, ◌++◌, map, length, refl, ap, sym, subst, ◌∙◌}
use Rattle.std.specs.List.{All}
use Rattle.std.specs.Map.{lookup}
use Rattle.std.specs.Option.{is_some, option_map}
use Rattle.std.proofs.lemmas.List.{map-append}
use Rattle.std.proofs.lemmas.List.Elements.{All-push}
use Rattle.indexmap.proofs.CallerLemmas.{insert_entry-new}
use Rattle.pv_audit.specs.Kept.{ordered_of, IsPlanned}
use Rattle.pv_audit.specs.Reports.{request_of}
use Rattle.pv_audit.specs.declared.begun.Request.{Request}
use Rattle.pv_audit.proofs.KeptLemmas.{is_key, lookup-kept, kept-already, kept-more, with_request}
use Rattle.pv_base.specs.declared.txn.TxnId.{TxnId}
use Rattle.pv_model.specs.Serial.{Ordered}
use Rattle.pv_audit.proofs.begun.Begun.take.Goals as goal

-- A transaction that is among the entries has a request.
had : (entries : List (TxnId × Request)) (txn : TxnId) → is_some (lookup (is_key txn) entries) ≡ true → (entry : Ordered) × (request_of (map ordered_of entries) txn ≡ Some entry)
had entries txn is = by (lookup (is_key txn) entries) refl is
  where
    by : (o : Option Request) → lookup (is_key txn) entries ≡ o → is_some o ≡ true → (entry : Ordered) × (request_of (map ordered_of entries) txn ≡ Some entry)
    by None found some = absurd (let wrong : ⊥ = cc in wrong)
    by (Some request) found some = (with_request txn request, sym (lookup-kept entries txn) ∙ ap (option_map (with_request txn)) found)

not-there : (o : Option Request) (b : Bool) → b ≡ is_some o → b ≡ false → o ≡ None
not-there None b is out = refl
not-there (Some request) b is out = absurd (let wrong : ⊥ = cc in wrong)

pub returns-then-contains_key-clause-first : goal.returns-then-contains_key-clause-first
returns-then-contains_key-clause-first c = λ requests kept txn.
    let entries = c.args.self.now.requests.entries in
    let has = had entries c.in-Some.txn (sym c.contains_key.ensures ∙ c.if-contains_key.true) in
    kept-already (map ordered_of entries) requests (record { txn = c.in-Some.txn; program = c.in-Some.request.program.now }) has.0 has.1 kept txn
    ∙ ap (λ (more : List Ordered). request_of (requests ++ more) txn) (sym c.in-Some.ensures.begun)

pub returns-clause-first : goal.returns-clause-first
returns-clause-first c = λ requests kept txn.
    let old = c.args.self.now.requests in
    let none = not-there (lookup (is_key c.in-Some.txn) old.entries) c.contains_key.result c.contains_key.ensures c.if-contains_key.false in
    let new : c.insert.new.self.entries ≡ old.entries ++ (c.in-Some.txn, c.in-Some.request) ∷ [] =
    c.in_ok-insert.ensures.entries ∙ insert_entry-new is_key old c.in-Some.txn c.in-Some.request none in
    ap (λ (entries : List (TxnId × Request)). request_of (map ordered_of entries) txn) new
    ∙ ap (λ (l : List Ordered). request_of l txn) (map-append ordered_of old.entries ((c.in-Some.txn, c.in-Some.request) ∷ []))
    ∙ kept-more (map ordered_of old.entries) requests (record { txn = c.in-Some.txn; program = c.in-Some.request.program.now } ∷ []) kept txn
    ∙ ap (λ (more : List Ordered). request_of (requests ++ more) txn) (sym c.in-Some.ensures.begun)

pub returns-clause-plans : goal.returns-clause-plans
returns-clause-plans c = λ catalog plans has.
    let old = c.args.self.now.requests in
    let none = not-there (lookup (is_key c.in-Some.txn) old.entries) c.contains_key.result c.contains_key.ensures c.if-contains_key.false in
    let new : c.insert.new.self.entries ≡ old.entries ++ (c.in-Some.txn, c.in-Some.request) ∷ [] =
    c.in_ok-insert.ensures.entries ∙ insert_entry-new is_key old c.in-Some.txn c.in-Some.request none in
    subst (λ (entries : List (TxnId × Request)). All (λ (kept : TxnId × Request). IsPlanned (length catalog.items) kept.1) entries) (sym new)
    (All-push (λ (kept : TxnId × Request). IsPlanned (length catalog.items) kept.1) old.entries (c.in-Some.txn, c.in-Some.request) plans (c.in-Some.ensures.plan catalog has))

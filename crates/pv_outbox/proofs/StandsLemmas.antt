-- Which records an outbox stands for after a call.
use Rattle.std.proofs.Common.{◌≡◌, ℕ, ◌+◌, Option, Some, None, List, [], ◌∷◌, ◌++◌, length, refl, sym, ap, subst, ◌∙◌, arith}
use Rattle.std.specs.Prelude.{is_some}
use Rattle.std.proofs.lemmas.Bool.{true≢false}
use Rattle.std.proofs.lemmas.List.Sums.{sum_by-append, sum_by-cons}
use Rattle.pv_base.proofs.Basics.{Some_inj}
use Rattle.pv_disk_model.specs.LogModel.{LogModel}
use Rattle.pv_disk_model.specs.Size.{Contents, size_of}
use Rattle.pv_law_outbox.specs.Runs.{IsWritten, MayWrite}
use Rattle.pv_law_outbox.specs.State.{Record, State, after}
use Rattle.pv_law_outbox.proofs.StateLemmas.{state_of-last}
use Rattle.pv_outbox.specs.Calls.{Writes, Stays}
use Rattle.pv_outbox.specs.OutboxState.{OutboxState, StandsFor}
use Rattle.pv_outbox.specs.Spelling.{SpellsRecord, SpellRecords}

pub spelled-more : (entries : List Record) (contents : Contents) (entry : Record) (bytes : List ℕ) → SpellRecords entries contents → SpellsRecord entry bytes
    → SpellRecords (entries ++ entry ∷ []) (contents ++ bytes ∷ [])
spelled-more [] [] entry bytes all one = (one, tt)
spelled-more [] (content ∷ contents) entry bytes all one = absurd all
spelled-more (first ∷ entries) [] entry bytes all one = absurd all
spelled-more (first ∷ entries) (content ∷ contents) entry bytes all one = (all.0, spelled-more entries contents entry bytes all.1 one)

size-more : (contents : Contents) (bytes : List ℕ) → size_of (contents ++ bytes ∷ []) ≡ size_of contents + (5 + length bytes)
size-more contents bytes =
    omega (arith, sum_by-append (λ (c : List ℕ). 5 + length c) contents (bytes ∷ []), sum_by-cons (λ (c : List ℕ). 5 + length c) bytes [])

module _ {W : Type 0} (M : LogModel W) (old new : OutboxState W) (entries : List Record) (contents : Contents) (stands : StandsFor M old entries contents) where
  module _ (entry : Record) (writes : Writes M old new entry) where
    held-then : (known : Option Contents) → M.contents old.log ≡ known → (held : Contents) → M.contents new.log ≡ Some held → held ≡ contents ++ writes.bytes ∷ []
    held-then None none held is =
        absurd (true≢false (sym (ap is_some is) ∙ writes.log.known ∙ ap is_some none))
    held-then (Some was) known held is =
        Some_inj (sym is ∙ writes.log.contents was known) ∙ ap (λ (front : Contents). front ++ writes.bytes ∷ []) (stands.held was known)

    pub stands-written : StandsFor M new (entries ++ entry ∷ []) (contents ++ writes.bytes ∷ [])
    stands-written = record {
      up = writes.is_up;
      state = writes.state ∙ ap (λ (state : State). after state entry) stands.state ∙ sym (state_of-last entries entry);
      spelled = spelled-more entries contents entry writes.bytes stands.spelled writes.spelled;
      size = writes.log.size ∙ ap (λ n. n + (5 + length writes.bytes)) stands.size ∙ sym (size-more contents writes.bytes);
      held = held-then (M.contents old.log) refl;
    }

    pub written-by : MayWrite old.state entry → IsWritten entries entry (entries ++ entry ∷ [])
    written-by may = record { may = subst (λ (state : State). MayWrite state entry) stands.state may; written = refl }

  pub stands-still : Stays M old new → StandsFor M new entries contents
  stands-still stays =
      subst (λ (outbox : OutboxState W). StandsFor M outbox entries contents) (sym stays.outbox)
      (record {
        up = stands.up;
        state = stands.state;
        spelled = stands.spelled;
        size = stays.log.size ∙ stands.size;
        held = λ held is. stands.held held (sym stays.log.contents ∙ is);
      })

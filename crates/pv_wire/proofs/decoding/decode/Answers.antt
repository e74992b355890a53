-- The kind, what it has, and then the end.
use Rattle.std.proofs.Common.{◌≡◌, ◌≢◌, ◌⊎◌, inl, inr, ◌&&◌, ◌==◌, ◌<◌, ℕ, Bool, true, false, List, [], ◌∷◌, length, get_or, refl, sym, subst, ◌∙◌, arith}
use Rattle.std.proofs.Common.{Fits, w8}
use Rattle.std.proofs.lemmas.Bool.{and_parts}
use Rattle.std.proofs.lemmas.Bool.Decides.{nat_tests}
use Rattle.std.proofs.lemmas.List.Elements.{All-from_get_or}
use Rattle.std.proofs.lemmas.Result.{err_from_is_err_and}
use Rattle.pv_base.specs.BigEndian.{AreBytes}
use Rattle.pv_format.specs.FirstFault.{EnvelopeFault, extra, is_unsure_kind}
use Rattle.pv_wire.specs.Reading.{has_only_sure}
use Rattle.pv_wire.specs.Values.{envelope_of}
use Rattle.pv_wire.specs.declared.error.WireError.TheVariants.{BadField, BadKind, Short, Extra}
use Rattle.pv_wire.proofs.EnvelopeLemmas.{refused, accepted, no_kind, no_such_kind, no_envelope, more_bytes, only_sure_values, whole_envelope}
use Rattle.pv_wire.proofs.decoding.decode.Goals as goal

bytes_are : (bytes : List ℕ) → ((i : ℕ) → Fits w8 (get_or bytes i 0)) → AreBytes bytes
bytes_are bytes fits = All-from_get_or (λ byte. byte < 256) bytes 0 (λ i inside. (fits i).fits)

some_left : (left : List ℕ) (b : Bool) → b ≡ (length left == 0) → b ≡ false → left ≢ []
some_left [] b is test = λ _. cc
some_left (byte ∷ left) b is test = λ e. cc

none_left : (left : List ℕ) (b : Bool) → b ≡ (length left == 0) → b ≡ true → left ≡ []
none_left [] b is test = refl
none_left (byte ∷ left) b is test = absurd (grind (arith, nat_tests))

one_wrong : (first second : Bool) → (first && second) ≡ false → (first ≡ false) ⊎ (second ≡ false)
one_wrong true second wrong = inr wrong
one_wrong false second wrong = inl refl

pub returns-in_default : goal.returns-in_default
returns-in_default c =
    record {
      answer = refused c.args.bytes.now (bytes_are c.args.bytes.now c.type_inv.bytes) (Short 0)
          (no_kind c.args.bytes.now (bytes_are c.args.bytes.now c.type_inv.bytes) c.new-take.result c.new-take.ensures c.u8.new.self c.in_default.field-0 c.in_default.ensures.short);
    }

pub returns-then-not-is_kind : goal.returns-then-not-is_kind
returns-then-not-is_kind c =
    record {
      answer = refused c.args.bytes.now (bytes_are c.args.bytes.now c.type_inv.bytes) (BadKind c.in-Ok.kind)
          (no_such_kind c.args.bytes.now (bytes_are c.args.bytes.now c.type_inv.bytes) c.new-take.result c.new-take.ensures c.in-Ok.kind c.u8.new.self c.in-Ok.ensures.taken (omega arith)
          (sym c.is_kind.ensures ∙ c.if-not-is_kind.true));
    }

pub returns-in_err-envelope : goal.returns-in_err-envelope
returns-in_err-envelope c =
    let p = err_from_is_err_and c.from_residual.result c.from_residual.ensures.1 in
    rw (p.1, p.2)
    record {
      answer = (no_envelope c.args.bytes.now (bytes_are c.args.bytes.now c.type_inv.bytes) c.new-take.result c.new-take.ensures c.in-Ok.kind c.u8.new.self c.in-Ok.ensures.taken (omega arith)
          (sym c.is_kind.ensures ∙ c.if-not-is_kind.false) c.in_err-envelope.field-0.0 c.in_err-envelope.ensures.stops);
    }

pub returns-then-not-is_empty : goal.returns-then-not-is_empty
returns-then-not-is_empty c =
    let some = some_left c.left.result.now c.is_empty.result c.is_empty.ensures c.if-not-is_empty.true in
    record {
      answer = refused c.args.bytes.now (bytes_are c.args.bytes.now c.type_inv.bytes) (Extra c.place.result)
          (subst (λ place. EnvelopeFault c.args.bytes.now (extra place)) (sym c.place.ensures.place)
          (more_bytes c.args.bytes.now (bytes_are c.args.bytes.now c.type_inv.bytes) c.new-take.result c.new-take.ensures c.in-Ok.kind c.u8.new.self c.in-Ok.ensures.taken (omega arith)
          (sym c.is_kind.ensures ∙ c.if-not-is_kind.false) (envelope_of c.in_ok-envelope.envelope) c.take_envelope.new.take c.in_ok-envelope.ensures.passes (subst (λ left. left ≢ []) c.left.ensures some)));
    }

pub returns-then-has_wrong_kind : goal.returns-then-has_wrong_kind
returns-then-has_wrong_kind c =
    let none = none_left c.left.result.now c.is_empty.result c.is_empty.ensures c.if-not-is_empty.false in
    let wrong = and_parts (is_unsure_kind c.in-Ok.kind) (has_only_sure (envelope_of c.in_ok-envelope.envelope).message) (sym c.has_wrong_kind.ensures ∙ c.if-has_wrong_kind.true) in
    record {
      answer = refused c.args.bytes.now (bytes_are c.args.bytes.now c.type_inv.bytes) (BadField 0)
          (only_sure_values c.args.bytes.now (bytes_are c.args.bytes.now c.type_inv.bytes) c.new-take.result c.new-take.ensures c.in-Ok.kind c.u8.new.self c.in-Ok.ensures.taken (omega arith)
          (sym c.is_kind.ensures ∙ c.if-not-is_kind.false) (envelope_of c.in_ok-envelope.envelope) c.take_envelope.new.take c.in_ok-envelope.ensures.passes (sym c.left.ensures ∙ none) wrong.0 wrong.1);
    }

pub returns : goal.returns
returns c =
    let none = none_left c.left.result.now c.is_empty.result c.is_empty.ensures c.if-not-is_empty.false in
    record {
      answer = accepted c.args.bytes.now (bytes_are c.args.bytes.now c.type_inv.bytes) c.in_ok-envelope.envelope
          (whole_envelope c.args.bytes.now (bytes_are c.args.bytes.now c.type_inv.bytes) c.new-take.result c.new-take.ensures c.in-Ok.kind c.u8.new.self c.in-Ok.ensures.taken (omega arith)
          (sym c.is_kind.ensures ∙ c.if-not-is_kind.false) (envelope_of c.in_ok-envelope.envelope) c.take_envelope.new.take c.in_ok-envelope.ensures.passes (sym c.left.ensures ∙ none)
          (one_wrong (is_unsure_kind c.in-Ok.kind) (has_only_sure (envelope_of c.in_ok-envelope.envelope).message) (sym c.has_wrong_kind.ensures ∙ c.if-has_wrong_kind.false)));
    }

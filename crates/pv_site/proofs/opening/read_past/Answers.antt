use Rattle.std.proofs.Common.{◌≡◌, inr, ◌∙◌, sym, ap, subst, List, ℕ, length, ◌^◌, ◌-◌}
use Rattle.std.specs.Global.{Vec}
use Rattle.std.specs.Prelude.{min, ◌==◌, vec_len}
use Rattle.std.proofs.lemmas.List.{length-map}
use Rattle.pv_format.specs.Contents.{SpellRecords}
use Rattle.pv_disk_model.specs.Size.{size_of}
use Rattle.pv_replay.specs.Values.{contents_of, records_of}
use Rattle.pv_site.proofs.OpenLemmas.{other-size, read-size, untold}
use Rattle.pv_site.proofs.opening.read_past.Goals as goal

pub returns-then-length-clause-read : goal.returns-then-length-clause-read
returns-then-length-clause-read g c =
    let did = c.in-Ok.ensures.effect in
    let contents = contents_of c.in-Ok.contents.items in
    let place = c.length_of-length.ensures ∙ ap (λ (all : List (Vec ℕ)). min (size_of (contents_of all)) (2 ^ 64 - 1)) c.deref.ensures.value in
    let other : min (size_of contents) (2 ^ 64 - 1) ≡ g.L.Log.model.size c.args.log.now → ⊥ =
    λ same. c.if-length.true (place ∙ (same ∙ (sym did.1.size ∙ sym c.length.ensures))) in (
      did.0,
      did.1,
      untold g.L.Log.model c.args.log.now c.requires.intact c.requires.up contents c.in-Ok.ensures.contents other,
      inr (contents, c.in-Ok.ensures.contents, place, other-size g.L.Log.model c.args.log.now c.requires.intact c.requires.up contents other, c.in-Ok.ensures.goes),
    )

pub returns-in-Ok-replay-clause-read : goal.returns-in-Ok-replay-clause-read
returns-in-Ok-replay-clause-read g c =
    let did = c.in-Ok.ensures.effect in
    let contents = contents_of c.in-Ok.contents.items in
    let length_is : length contents ≡ vec_len c.in-Ok.contents =
    length-map c.in-Ok.contents.items (λ (content : Vec ℕ). content.items) ∙ (ap (λ (all : List (Vec ℕ)). length all) (sym c.deref.ensures.value) ∙ c.deref.ensures.len) in (
      (
        record {
          contents = contents;
          read = c.in-Ok.ensures.contents;
          size = read-size g.L.Log.model c.args.log.now c.requires.intact c.requires.up contents
              (ap (λ (all : List (Vec ℕ)). min (size_of (contents_of all)) (2 ^ 64 - 1)) (sym c.deref.ensures.value)
              ∙ (sym c.length_of-length.ensures ∙ (c.if-length.false ∙ (c.length.ensures ∙ did.1.size))));
          spelled = subst (λ (all : List (Vec ℕ)). SpellRecords (records_of c.in-Ok-replay.past.records.items) (contents_of all)) c.deref-2.ensures.value
              c.in-Ok-replay.ensures.answer.given;
          up = did.0;
          log = did.1;
          call = c.in-Ok.ensures.goes;
        },
        c.is_empty.ensures ∙ ap (λ n. n == 0) (sym length_is),
        c.of.ensures,
      ),
      c.in-Ok-replay.ensures.epoch,
    )

-- One content after another is put into the block.
use Rattle.std.proofs.Common.{◌≡◌, ◌+◌, ◌^◌, ◌<◌, [], ◌∷◌, ◌++◌, ◌∙◌, List, ℕ, Vec, Global, drop, length, ap, sym, subst, arith}
use Rattle.std.proofs.lemmas.List.{append-nil, drop_more}
use Rattle.std.proofs.lemmas.List.Elements.{All-head, All-tail}
use Rattle.std.proofs.Math.ListN.{drop_of_length-le}
use Rattle.pv_format.specs.Journal.{AreShort, framed}
use Rattle.pv_law_checkpoints.specs.TwoAreas.{block_of}
use Rattle.pv_law_checkpoints.proofs.Blocks.{short_within}
use Rattle.pv_ckpt.specs.Rewriting.{contents_of}
use Rattle.pv_ckpt.proofs.RewriteLemmas.{framed_more}
use Rattle.pv_ckpt.proofs.rewrite.block_of.Goals as goal

pub loop-content-init : goal.loop-content-init
loop-content-init c = record {
  written = ap (λ (l : List ℕ). l ++ block_of (contents_of c.args.contents.now)) c.in_ok-block.ensures.empty;
  short = short_within (contents_of c.args.contents.now) c.requires;
}

pub loop-content-preserved : goal.loop-content-preserved
loop-content-preserved c =
    let contents = c.args.contents.now in
    let i = c.loop-content.content-index in
    let content = c.content-item.result in
    let before = c.loop-content.block.bytes in
    let left = contents_of (drop (i + 1) contents) in
    let first : drop i contents ≡ content ∷ drop (i + 1) contents =
    drop_more contents i content c.loop-content-test.true ∙ ap (λ (one : Vec ℕ Global). one ∷ drop (i + 1) contents) (sym c.content-item.is) in
    record {
      written =
          framed_more before c.put_framed.new.block.bytes content.items left (contents_of contents) (c.in_ok-put_framed.ensures ∙ ap (λ (l : List ℕ). before ++ framed l) c.deref.ensures.value)
          (subst (λ (all : List (Vec ℕ Global)). before ++ block_of (contents_of all) ≡ block_of (contents_of contents)) first c.loop-content.invariant.written);
      short = All-tail (λ one. length one < 2 ^ 32) content.items left (subst (λ (all : List (Vec ℕ Global)). AreShort (contents_of all)) first c.loop-content.invariant.short);
    }

pub put_framed-requires : goal.put_framed-requires
put_framed-requires c =
    let contents = c.args.contents.now in
    let i = c.loop-content.content-index in
    let content = c.content-item.result in
    let first : drop i contents ≡ content ∷ drop (i + 1) contents =
    drop_more contents i content c.loop-content-test.true ∙ ap (λ (one : Vec ℕ Global). one ∷ drop (i + 1) contents) (sym c.content-item.is) in
    let short = All-head (λ one. length one < 2 ^ 32) content.items (contents_of (drop (i + 1) contents))
    (subst (λ (all : List (Vec ℕ Global)). AreShort (contents_of all)) first c.loop-content.invariant.short) in
    omega (arith, short, ap length c.deref.ensures.value)

pub returns : goal.returns
returns c =
    let contents = c.args.contents.now in
    let none : drop c.loop-content.content-index contents ≡ [] = drop_of_length-le contents c.loop-content-test.false in
    c.done.ensures ∙ sym (append-nil c.loop-content.block.bytes)
    ∙ subst (λ (all : List (Vec ℕ Global)). c.loop-content.block.bytes ++ block_of (contents_of all) ≡ block_of (contents_of contents)) none c.loop-content.invariant.written

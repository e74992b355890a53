-- The contents so far are in the block, and the others are short.
use Rattle.std.proofs.Common.{◌≡◌, ◌++◌, drop}
use Rattle.pv_format.specs.Journal.{AreShort}
use Rattle.pv_law_checkpoints.specs.TwoAreas.{block_of}
use Rattle.pv_ckpt.specs.Rewriting.{contents_of}
use Rattle.pv_ckpt.proofs.rewrite.block_of.Given as goal

abbrev pub invariant-loop-content : goal.invariant-loop-content
invariant-loop-content l = record {
  written : l.block.bytes ++ block_of (contents_of (drop l.content-index l.contents)) ≡ block_of (contents_of l.contents);
  short : AreShort (contents_of (drop l.content-index l.contents));
}

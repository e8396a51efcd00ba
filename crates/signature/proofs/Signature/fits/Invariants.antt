use Rattle.std.proofs.Common.{take}
use Rattle.tree_model.specs.Signatures.{Fits}
use Rattle.signature.proofs.Signature.fits.Given as goal

abbrev pub invariant-loop-node : goal.invariant-loop-node
invariant-loop-node l = Fits l.self (take l.node-index l.nodes)

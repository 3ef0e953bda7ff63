-- A read that a signal interrupted took nothing, and nothing was reported.
use Rattle.std.specs.Io.KnownBytes.{Keeps}
use Rattle.streams.proofs.read.Given as goal

abbrev pub invariant-loop : goal.invariant-loop
invariant-loop g l = record {
  taken : Keeps (g.R.Read.remaining l.initial.reader) (g.R.Read.remaining l.reader);
  silent : Keeps (g.E.Write.contents l.initial.errors) (g.E.Write.contents l.errors);
}

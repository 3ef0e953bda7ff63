-- Demands 2 and 3 hold: all codecs are faithful, AltDUDE and LACE have rules of form, BRACE reads alike, and the C interface hands demand 2 on.
use native.Mathlib.Omega.{arith}
use Rattle.altdude_facts.specs.Codec as altdude
use Rattle.altdude_facts.proofs.Faithful.{altdude-faithful, altdude-ruled}
use Rattle.lace_facts.specs.Codec as lace
use Rattle.lace_facts.proofs.Faithful.{lace-faithful, lace-ruled}
use Rattle.lace_facts.proofs.LongLdh.{long-ldh}
use Rattle.brace_facts.specs.Codec as brace
use Rattle.brace_facts.proofs.Faithful.{brace-faithful, brace-alike}
use Rattle.brace_facts.proofs.Points.{points-faithful, points-alike}
use Rattle.claims.specs.Demands.{Demand2, Demand3}
use Rattle.claims.proofs.CodecDemands.{demand2-of, alike_of, demand3-of}
use Rattle.claims.proofs.Interface.{at-interface}

pub demand2 : Demand2
demand2 = record {
  of_altdude = demand2-of altdude.codec altdude-faithful;
  of_lace = demand2-of lace.codec lace-faithful;
  of_brace = demand2-of brace.codec brace-faithful;
  of_brace_points = demand2-of brace.points_codec points-faithful;
  long_ldh = λ capacity t room ldh long. long-ldh capacity t room ldh (omega (arith, long));
  at_interface = at-interface;
}

pub demand3 : Demand3
demand3 = record {
  of_altdude = demand3-of altdude.codec altdude-faithful _ altdude-ruled;
  of_lace = demand3-of lace.codec lace-faithful _ lace-ruled;
  of_brace = alike_of brace.codec brace-faithful brace-alike;
  of_brace_points = alike_of brace.points_codec points-faithful points-alike;
}

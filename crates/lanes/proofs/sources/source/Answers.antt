-- Each arm makes the row of its case of the source.
use Prim.Native.Nat.{◌+◌, ◌*◌, ◌/◌}
use mathlib.Core.Path.{refl}
use native.Mathlib.Omega.{arith}
use lib.ListN.{get_or}
use Rattle.std.proofs.Common.{rules}
use Rattle.isa.specs.declared.operand.Source.{Source}
use Rattle.machine.specs.Words.{word_at, source_value}
use Rattle.lanes.proofs.Bounds.{half_below, pair_below, row_alike, source_made}
use Rattle.lanes.proofs.sources.source.Goals as goal

pub returns-in-Half : goal.returns-in-Half
unfolding source_value
returns-in-Half c =
    source_made c.args.registers.now c.args.uniforms.now c.halves.result c.args.s (Source.Half c.in-Half.h) _ c.in-Half.is
    c.halves.ensures
    (λ t. refl)
    (λ t. half_below c.in-Half.h (word_at c.args.registers.now (c.in-Half.h / 2) t) (c.type_inv.registers (32 * (c.in-Half.h / 2) + t)).fits)

pub returns-in-Register : goal.returns-in-Register
unfolding source_value
returns-in-Register c =
    source_made c.args.registers.now c.args.uniforms.now c.words.result c.args.s (Source.Register c.in-Register.r) _ c.in-Register.is
    c.words.ensures
    (λ t. refl)
    (λ t. (c.type_inv.registers (32 * c.in-Register.r + t)).fits)

pub returns-in-Pair : goal.returns-in-Pair
unfolding source_value
returns-in-Pair c =
    source_made c.args.registers.now c.args.uniforms.now c.pairs.result c.args.s (Source.Pair c.in-Pair.r) _ c.in-Pair.is
    c.pairs.ensures
    (λ t. refl)
    (λ t. pair_below (word_at c.args.registers.now c.in-Pair.r t) (word_at c.args.registers.now (c.in-Pair.r + 1) t) (c.type_inv.registers (32 * c.in-Pair.r + t)).fits
    (c.type_inv.registers (32 * (c.in-Pair.r + 1) + t)).fits)

pub returns-in-UniformHalf : goal.returns-in-UniformHalf
unfolding source_value
returns-in-UniformHalf c =
    source_made c.args.registers.now c.args.uniforms.now _ c.args.s (Source.UniformHalf c.in-UniformHalf.h) _ c.in-UniformHalf.is
    (row_alike _)
    (λ t. c.uniform_half-row.ensures)
    (λ t. half_below c.in-UniformHalf.h (get_or c.args.uniforms.now (c.in-UniformHalf.h / 2) 0) (c.type_inv.uniforms (c.in-UniformHalf.h / 2)).fits)

pub returns-in-UniformRegister : goal.returns-in-UniformRegister
unfolding source_value
returns-in-UniformRegister c =
    source_made c.args.registers.now c.args.uniforms.now _ c.args.s (Source.UniformRegister c.in-UniformRegister.r) _ c.in-UniformRegister.is
    (row_alike _)
    (λ t. search rules)
    (λ t. (c.type_inv.uniforms c.in-UniformRegister.r).fits)

pub returns-in-UniformPair : goal.returns-in-UniformPair
unfolding source_value
returns-in-UniformPair c =
    source_made c.args.registers.now c.args.uniforms.now _ c.args.s (Source.UniformPair c.in-UniformPair.r) _ c.in-UniformPair.is
    (row_alike _)
    (λ t. c.uniform_pair-row.ensures)
    (λ t. pair_below (get_or c.args.uniforms.now c.in-UniformPair.r 0) (get_or c.args.uniforms.now (c.in-UniformPair.r + 1) 0) (c.type_inv.uniforms c.in-UniformPair.r).fits (c.type_inv.uniforms (c.in-UniformPair.r + 1)).fits)

pub returns-in-Immediate : goal.returns-in-Immediate
unfolding source_value
returns-in-Immediate c =
    source_made c.args.registers.now c.args.uniforms.now _ c.args.s (Source.Immediate c.in-Immediate.v) _ c.in-Immediate.is
    (row_alike _)
    (λ t. search rules)
    (λ t. omega arith)

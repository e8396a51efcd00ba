use Rattle.std.proofs.Common.{sym, ap, ◌∙◌, option_copied}
use Rattle.solver_cli.proofs.Games.{among_has_text}
use Rattle.solver_cli.proofs.inputs.game_bytes.Goals as goal

pub unreachable-requires : goal.unreachable-requires
unreachable-requires c = among_has_text c.args.name.now c.requires (sym c.game.ensures ∙ ap option_copied c.in_default.is)

use Rattle.basin_file.proofs.TableSpells.{table_spells}
use Rattle.basin_file.proofs.laws.tables_spell_their_basins.Goals as goal

pub returns : goal.returns
returns c = table_spells

use Rattle.std.proofs.Common.{◌∷◌, [], refl, arith}
use Rattle.gtfs_table.specs.TablesRead.{kept_files}
use Rattle.gtfs_table.specs.declared.file.File.TheVariants as file
use Rattle.gtfs_schema.specs.declared.code.Code.TheVariants as code
use Rattle.gtfs_schema.specs.steps.FieldCodes.{in_file_of}
use Rattle.gtfs_schema.proofs.EachFacts.{each_done, each_more}
use Rattle.gtfs_row_rules.proofs.FileFacts.{files_reported}
use Rattle.gtfs_row_rules.proofs.headers.report_headers.Goals as goal

pub loop-file-preserved : goal.loop-file-preserved
loop-file-preserved c = each_more c.args.tables.now (in_file_of (code.E03 ∷ code.E04 ∷ code.W04 ∷ [])) kept_files c.loop-file.file-index file.Agency
    c.args.found.now c.loop-file.found c.report_header.new.found (omega arith) c.loop-file.invariant c.in_ok-report_header.ensures

pub returns : goal.returns
returns c = files_reported c.args.tables.now (code.E03 ∷ code.E04 ∷ code.W04 ∷ []) refl c.args.found.now c.loop-file.found
    (each_done c.args.tables.now (in_file_of (code.E03 ∷ code.E04 ∷ code.W04 ∷ [])) kept_files c.loop-file.file-index c.args.found.now c.loop-file.found (omega arith) c.loop-file.invariant)

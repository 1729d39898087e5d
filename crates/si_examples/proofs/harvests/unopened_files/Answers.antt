use Rattle.si_examples.proofs.OneHarvest.{big_file, missing_file, no_missing_file, failed_file, own_include, no_depth_of_open_file, deep_include, late_include}
use Rattle.si_examples.proofs.harvests.unopened_files.Goals as goal

pub returns-clause-big_file : goal.returns-clause-big_file
returns-clause-big_file c = big_file

pub returns-clause-missing_file : goal.returns-clause-missing_file
returns-clause-missing_file c = missing_file

pub returns-clause-no_missing_file : goal.returns-clause-no_missing_file
returns-clause-no_missing_file c = no_missing_file

pub returns-clause-failed_file : goal.returns-clause-failed_file
returns-clause-failed_file c = failed_file

pub returns-clause-own_include : goal.returns-clause-own_include
returns-clause-own_include c = own_include

pub returns-clause-no_depth_of_open_file : goal.returns-clause-no_depth_of_open_file
returns-clause-no_depth_of_open_file c = no_depth_of_open_file

pub returns-clause-deep_include : goal.returns-clause-deep_include
returns-clause-deep_include c = deep_include

pub returns-clause-late_include : goal.returns-clause-late_include
returns-clause-late_include c = late_include

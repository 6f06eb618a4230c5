mod IssuerNames
